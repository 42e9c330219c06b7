use Rattle.std.proofs.Common.{◌≡◌, ℕ, ◌≤◌, ◌<◌, IsSome}
use Rattle.points.specs.Run.{rows_between}
use Rattle.store_memory.specs.Held.{kept_rows}
use Rattle.store_memory.proofs.panel_table.PanelTable.run.Given as goal

abbrev pub invariant-loop-number : goal.invariant-loop-number
invariant-loop-number l = record {
  rows : l.rows.items ≡ rows_between (kept_rows l.self) l.from l.number;
  unbroken : (n : ℕ) → l.upto ≤ n → n < l.number → IsSome (kept_rows l.self n);
}
