use Rattle.std.proofs.Common.{◌≡◌, ◌∙◌, ◌+◌, ◌<◌, ◌∷◌, None, ap, arith, drop, length, sym, subst}
use Rattle.std.proofs.lemmas.List.{drop_more}
use Rattle.sched.specs.declared.calendar.CalendarEntry.{CalendarEntry}
use Rattle.desk_settling.specs.Calendars.{Tells}
use Rattle.store.specs.Standing.{Content}
use Rattle.store.proofs.ReadLemmas.{Reads-then, kept-read}
use Rattle.desk_clock.proofs.AddedLemmas.{added-more}
use Rattle.desk_clock.specs.Knowing.{Knows}
use Rattle.desk_clock.proofs.adding.added_items.Goals as goal

pub loop-row-preserved : goal.loop-row-preserved
loop-row-preserved g c =
    let so_far = c.loop-row.invariant in
    let first = g.S.Store.standing c.args.store.now in
    let old = g.S.Store.standing c.loop-row.store in
    let new = g.S.Store.standing c.add_row.new.store in
    let steps = c.in_ok-add_row.ensures in
    let known = c.loop-row.known in
    let items = c.loop-row.items.items in
    record {
      reads = Reads-then None first old new so_far.reads steps.reads;
      knows = λ honest.
          let before = steps.reads.goes.honest honest in
          let kept = kept-read first old so_far.reads before in
          let knew = subst (λ (content : Content). Knows known c.args.building.now content.tables.imported items) (sym kept) (so_far.knows before) in
          subst (λ (content : Content). Knows c.add_row.new.known c.args.building.now content.tables.imported c.add_row.new.items.items) kept
          (steps.knows honest knew);
      added = λ honest imported tells.
          let before = steps.reads.goes.honest honest in
          let kept = kept-read first old so_far.reads before in
          let here = subst (λ (content : Content). Tells content.tables.imported imported) (sym kept) tells in
          let knew = subst (λ (content : Content). Knows known c.args.building.now content.tables.imported items) (sym kept) (so_far.knows before) in
          let within : c.loop-row.row-index < length c.args.rows.now = omega (arith, c.loop-row-test.true) in
          let rest = drop_more c.args.rows.now c.loop-row.row-index c.row-item.result within in
          let next : drop c.loop-row.row-index c.args.rows.now ≡ c.row-item.result ∷ drop (c.loop-row.row-index + 1) c.args.rows.now =
          rest ∙ ap (λ (first : CalendarEntry). first ∷ drop (c.loop-row.row-index + 1) c.args.rows.now) (sym c.row-item.is) in
          added-more c.args.building.now imported c.args.rows.now c.loop-row.row-index c.row-item.result items c.add_row.new.items.items
          _ next (steps.adds honest knew imported here) (so_far.added before imported tells);
    }
