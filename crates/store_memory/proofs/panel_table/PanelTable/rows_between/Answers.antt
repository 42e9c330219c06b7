use Rattle.std.proofs.Common.{◌∙◌, sym, ap}
use Rattle.std.proofs.Common.{Vec, Global}
use Rattle.points.specs.declared.numbered_row.NumberedRow.{NumberedRow}
use Rattle.store_memory.specs.Held.{kept_rows}
use Rattle.store.proofs.RowLemmas.{next-row, next-none}
use Rattle.store_memory.proofs.panel_table.PanelTable.rows_between.Goals as goal
use Rattle.store_memory.proofs.panel_table.PanelTable.rows_between.Goals.{in-Some+in_ok-push-in-Some, in-None}

pub loop-number-preserved : goal.loop-number-preserved
loop-number-preserved c =
    let rows = kept_rows c.args.self.now in
    elim c.match-row.branch [
      | in-Some+in_ok-push-in-Some w ↦
          next-row rows c.args.from c.loop-number.number w.in-Some.row c.loop-number.rows.items c.match-row.rows.items
          c.loop-number.auto.number
          c.loop-number.invariant (sym c.row.ensures ∙ w.in-Some.is)
          (ap (λ (v : Vec NumberedRow Global). v.items) w.rows-is ∙ w.in_ok-push-in-Some.ensures.items)
      | in-None w ↦
          next-none rows c.args.from c.loop-number.number c.match-row.rows.items c.loop-number.auto.number
          (ap (λ (v : Vec NumberedRow Global). v.items) w.rows-is ∙ c.loop-number.invariant) (sym c.row.ensures ∙ w.in-None.is)
    ]
