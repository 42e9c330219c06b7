use Rattle.std.proofs.Common.{◌≤◌, ℕ, List}
use Rattle.store_sql_rows.specs.Stored.{Kept, tables_in}
use Rattle.store_sql.specs.Numbered.{IsListed}
use Rattle.store_sql.specs.Stepping.{AllStand, AreSoFar}
use Rattle.store_sql.proofs.numbered.run_in.Given as goal

-- the rows of the run below a number
abbrev pub invariant-loop : goal.invariant-loop
invariant-loop l = record {
  ordered : l.from ≤ l.number;
  so_far : (kept : Kept) (panel : List ℕ) (least gap : ℕ) → IsListed kept panel least l.upto gap l.numbered → l.from ≤ gap
      → ((n : ℕ) → l.from ≤ n → 1 ≤ n → least ≤ n)
      → AreSoFar ((tables_in kept).row panel) l.from l.upto l.number l.run.items × AllStand kept panel l.from l.number
      × (l.number ≤ gap);
}
