use Rattle.std.proofs.Common.{◌≡◌, length, drop}
use Rattle.store_sql_rows.specs.Together.{AreOf, PlaceTakes, place_key, place_shown}
use Rattle.store_sql_rows.proofs.place_runs.are_of.Given as goal

abbrev pub invariant-loop-at : goal.invariant-loop-at
invariant-loop-at l = record {
  lengths : length l.rows ≡ length l.items;
  whole : AreOf place_shown place_key (PlaceTakes l.value) (drop l.at l.rows) (drop l.at l.items)
      → AreOf place_shown place_key (PlaceTakes l.value) l.rows l.items;
}
