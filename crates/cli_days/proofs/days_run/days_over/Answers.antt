use Rattle.std.proofs.Common.{[], inl, inr, subst}
use Rattle.std.specs.Io.KnownBytes.{Appends}
use Rattle.cli_common.proofs.PrintedLemmas.{Keeps-same}
use Rattle.points.specs.Beginnings.{AppendsStart}
use Rattle.store_memory.specs.Memory.{standing_of}
use Rattle.cli_days.proofs.ListedLemmas.{asked-text, asks_of, nothing-told, on_ok}
use Rattle.cli_days.proofs.days_run.days_over.Goals as goal

pub returns-clause-done : goal.returns-clause-done
returns-clause-done g c =
    on_ok c.print_over.result (λ printed bytes file.
    let from = c.args.bounds.from.now in
    let to = c.args.bounds.to.now in
    let is = c.in_ok-building.ensures bytes file in (
      asks_of bytes from to c.in_ok-building.building c.in_ok-range.range is c.in_ok-range.ensures,
      subst (λ text. Appends (g.W.Write.contents c.args.out.now) (g.W.Write.contents c.print_over.new.out) text)
          (asked-text bytes from to c.in_ok-building.building c.in_ok-range.range is c.in_ok-range.ensures (λ calendar. [])) printed,
    ))
    (c.print_over.ensures.whole tt (λ calendar. []) (nothing-told (standing_of c.new-store.result).content c.new-store.ensures.empty))

pub returns-clause-no_more : goal.returns-clause-no_more
returns-clause-no_more g c = λ bytes file.
    let from = c.args.bounds.from.now in
    let to = c.args.bounds.to.now in
    let is = c.in_ok-building.ensures bytes file in
    inr (
      asks_of bytes from to c.in_ok-building.building c.in_ok-range.range is c.in_ok-range.ensures,
      subst (λ text. AppendsStart (g.W.Write.contents c.args.out.now) (g.W.Write.contents c.print_over.new.out) text)
          (asked-text bytes from to c.in_ok-building.building c.in_ok-range.range is c.in_ok-range.ensures (λ calendar. []))
          (c.print_over.ensures.no_more tt (λ calendar. []) (nothing-told (standing_of c.new-store.result).content c.new-store.ensures.empty)),
    )

pub returns-in_err-building-clause-no_more : goal.returns-in_err-building-clause-no_more
returns-in_err-building-clause-no_more g c = λ bytes file. inl (Keeps-same _)

pub returns-in_err-range-clause-no_more : goal.returns-in_err-range-clause-no_more
returns-in_err-range-clause-no_more g c = λ bytes file. inl (Keeps-same _)
