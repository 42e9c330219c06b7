use Rattle.std.proofs.Common.{◌≡◌, length, drop}
use Rattle.store_sql_rows.specs.Together.{AreOf, ScheduleTakes, schedule_key, schedule_shown}
use Rattle.store_sql_rows.proofs.shown_runs.are_of.Given as goal

abbrev pub invariant-loop-at : goal.invariant-loop-at
invariant-loop-at l = record {
  lengths : length l.rows ≡ length l.items;
  whole : AreOf schedule_shown schedule_key (ScheduleTakes l.value) (drop l.at l.rows) (drop l.at l.items)
      → AreOf schedule_shown schedule_key (ScheduleTakes l.value) l.rows l.items;
}
