use Rattle.std.proofs.Common.{◌∙◌, ap, subst, sym}
use Rattle.std.specs.Io.KnownBytes.{Appends}
use Rattle.cli_common.proofs.PrintedLemmas.{Appends-Keeps, Keeps-same, start-Keeps}
use Rattle.desk_settling.specs.Calendars.{Tells}
use Rattle.points.specs.Beginnings.{AppendsStart}
use Rattle.store.specs.Standing.{Content}
use Rattle.store.specs.Tables.{Tables}
use Rattle.cli_days.proofs.ListedLemmas.{asked-text, asks_of, at_any_err, at_ok}
use Rattle.cli_days.proofs.days_run.list_over.Goals as goal

pub returns-clause-listed : goal.returns-clause-listed
returns-clause-listed g c = λ bytes file.
    let from = c.args.bounds.from.now in
    let to = c.args.bounds.to.now in
    let is = c.in_ok-building.ensures bytes file in
    let text = asked-text bytes from to c.in_ok-building.building c.in_ok-range.range is c.in_ok-range.ensures in
    record {
      asked = asks_of bytes from to c.in_ok-building.building c.in_ok-range.range is c.in_ok-range.ensures;
      reported = λ tables finds honest imported tells.
          let told = subst (λ (t : Tables). Tells t.imported imported) (sym (c.in_ok-store.ensures tables finds)) tells in
          record {
            whole = λ done. subst (λ t. Appends (g.W.Write.contents c.args.out.now) (g.W.Write.contents c.end_of-status.new.out) t) (text imported)
                (Appends-Keeps _ _ _ _ (at_ok c.print_over-listed.result _ (c.end_of-status.ensures.done done)
                (c.print_over-listed.ensures.whole honest imported told)) c.end_of-status.ensures.out);
            no_more = subst (λ t. AppendsStart (g.W.Write.contents c.args.out.now) (g.W.Write.contents c.end_of-status.new.out) t) (text imported)
                (start-Keeps _ _ _ _ (c.print_over-listed.ensures.no_more honest imported told) c.end_of-status.ensures.out);
          };
      kept = λ done tables finds honest.
          ap (λ (k : Content). k.tables) (at_ok c.print_over-listed.result _ (c.end_of-status.ensures.done done)
          (c.print_over-listed.ensures.kept honest)) ∙ c.in_ok-store.ensures tables finds;
    }

pub returns-in_err-building-clause-unlisted : goal.returns-in_err-building-clause-unlisted
returns-in_err-building-clause-unlisted g c =
    at_any_err c.from_residual.result _ (Keeps-same (g.W.Write.contents c.args.out.now))

pub returns-in_err-range-clause-unlisted : goal.returns-in_err-range-clause-unlisted
returns-in_err-range-clause-unlisted g c =
    at_any_err c.from_residual-in_err-range.result _ (Keeps-same (g.W.Write.contents c.args.out.now))

pub returns-in_err-store-clause-unlisted : goal.returns-in_err-store-clause-unlisted
returns-in_err-store-clause-unlisted g c =
    at_any_err c.from_residual-in_err-store.result _ (Keeps-same (g.W.Write.contents c.args.out.now))
