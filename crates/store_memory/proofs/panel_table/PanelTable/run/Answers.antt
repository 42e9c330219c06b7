use Rattle.std.proofs.Common.{◌≤◌, ◌∙◌, sym, arith}
use Rattle.store_memory.specs.Held.{kept_rows}
use Rattle.store_memory.proofs.HeldLemmas.{unbroken-step}
use Rattle.store.proofs.RowLemmas.{next-row}
use Rattle.store_memory.proofs.panel_table.PanelTable.run.Goals as goal

pub loop-number-preserved : goal.loop-number-preserved
loop-number-preserved c =
    let ordered : c.args.from ≤ c.loop-number.number = omega arith in
    record {
      rows =
          next-row (kept_rows c.args.self.now) c.args.from c.loop-number.number c.in-Some.row c.loop-number.rows.items
          c.push.new.self.items ordered
          c.loop-number.invariant.rows (sym c.row.ensures ∙ c.in-Some.is) c.in_ok-push-in-Some.ensures.items;
      unbroken = unbroken-step (kept_rows c.args.self.now) c.args.upto c.loop-number.number c.in-Some.row c.loop-number.invariant.unbroken
          (sym c.row.ensures ∙ c.in-Some.is);
    }
