use Rattle.std.proofs.Common.{◌≡◌}
use Rattle.points.specs.Run.{rows_between}
use Rattle.store_memory.specs.Held.{kept_rows}
use Rattle.store_memory.proofs.panel_table.PanelTable.rows_between.Given as goal

abbrev pub invariant-loop-number : goal.invariant-loop-number
invariant-loop-number l = l.rows.items ≡ rows_between (kept_rows l.self) l.from l.number
