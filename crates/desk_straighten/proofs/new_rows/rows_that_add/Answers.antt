use Rattle.std.proofs.Common.{◌≡◌, ◌∙◌, ◌+◌, ◌<◌, ◌≤◌, ◌++◌, ◌∷◌, List, Vec, Global, None, ap, arith, drop, length, nat_lt, sym, subst}
use Rattle.std.proofs.lemmas.List.{append-nil, drop_more}
use Rattle.std.proofs.lemmas.Bool.Decides.{nat_tests}
use Rattle.sched.specs.declared.calendar.CalendarEntry.{CalendarEntry}
use Rattle.desk_settling.specs.Calendars.{Tells}
use Rattle.store.specs.Standing.{Content}
use Rattle.store.proofs.ReadLemmas.{Reads-then, kept-read}
use Rattle.desk_clock.specs.Knowing.{Knows}
use Rattle.desk_straighten.specs.Steps.{row_if}
use Rattle.desk_straighten.proofs.NewRowLemmas.{row_if-no, row_if-yes, rows-more}
use Rattle.desk_straighten.proofs.new_rows.rows_that_add.Goals as goal
use Rattle.desk_straighten.proofs.new_rows.rows_that_add.Goals.{then-before-len+in_ok-push, else-before-len}

pub loop-row-preserved : goal.loop-row-preserved
loop-row-preserved g c =
    let so_far = c.loop-row.invariant in
    let first = g.S.Store.standing c.args.store.now in
    let old = g.S.Store.standing c.loop-row.store in
    let adds = c.in_ok-add_row.ensures in
    let row = c.row-item.result in
    let before = c.loop-row.items.items in
    let now = c.add_row.new.items.items in
    let m = c.len-before.result in
    let n = c.len.result in
    let keeps : c.if-before-len.kept.items ≡ c.loop-row.kept.items ++ row_if (nat_lt (length before) (length now)) row =
    elim c.if-before-len.branch [
      | then-before-len+in_ok-push w ↦
          let test = w.if-before-len.true in
          let more : m < n = grind (arith, nat_tests) in
          ap (λ (v : Vec CalendarEntry Global). v.items) w.kept-is
          ∙ (w.in_ok-push.ensures.items
          ∙ ap (λ (rows : List CalendarEntry). c.loop-row.kept.items ++ rows)
          (sym (row_if-yes row before now m n (c.len-before.ensures ∙ c.loop-row.items.ok.0) (c.len.ensures
          ∙ c.add_row.new.items.ok.0) more)))
      | else-before-len w ↦
          let test = w.if-before-len.false in
          let no_more : n ≤ m = grind (arith, nat_tests) in
          ap (λ (v : Vec CalendarEntry Global). v.items) w.kept-is
          ∙ sym (ap (λ (rows : List CalendarEntry). c.loop-row.kept.items ++ rows)
          (row_if-no row before now m n (c.len-before.ensures ∙ c.loop-row.items.ok.0) (c.len.ensures ∙ c.add_row.new.items.ok.0) no_more)
          ∙ append-nil c.loop-row.kept.items)
    ] in
    record {
      reads = Reads-then None first old (g.S.Store.standing c.add_row.new.store) so_far.reads adds.reads;
      knows = λ honest.
          let was_honest = adds.reads.goes.honest honest in
          let kept = kept-read first old so_far.reads was_honest in
          let knew = subst (λ (content : Content). Knows c.loop-row.known c.args.building.now content.tables.imported before) (sym kept) (so_far.knows was_honest) in
          subst (λ (content : Content). Knows c.add_row.new.known c.args.building.now content.tables.imported now) kept (adds.knows honest knew);
      rows = λ honest imported straightens.
          let was_honest = adds.reads.goes.honest honest in
          let kept = kept-read first old so_far.reads was_honest in
          let here = subst (λ (content : Content). Tells content.tables.imported imported) (sym kept) straightens in
          let knew = subst (λ (content : Content). Knows c.loop-row.known c.args.building.now content.tables.imported before) (sym kept) (so_far.knows was_honest) in
          let within : c.loop-row.row-index < length c.args.rows.now = omega (arith, c.loop-row-test.true) in
          let rest = drop_more c.args.rows.now c.loop-row.row-index c.row-item.result within in
          let next : drop c.loop-row.row-index c.args.rows.now ≡ c.row-item.result ∷ drop (c.loop-row.row-index + 1) c.args.rows.now =
          rest ∙ ap (λ (first : CalendarEntry). first ∷ drop (c.loop-row.row-index + 1) c.args.rows.now) (sym c.row-item.is) in
          rows-more c.args.building.now imported c.args.rows.now c.loop-row.row-index c.row-item.result c.loop-row.items.items
          c.add_row.new.items.items c.loop-row.kept.items c.if-before-len.kept.items
          _ next (adds.adds honest knew imported here) keeps (so_far.rows was_honest imported straightens);
    }
