use Rattle.std.proofs.Common.{◌≡◌, ℕ, ◌<◌, ◌≤◌, None}
use Rattle.std.specs.FinMap as map
use Rattle.points.specs.PriorityArray.{HasSixteenPlaces}
use Rattle.store_memory.proofs.arrays.has_value.Given as goal

abbrev pub invariant-loop-priority : goal.invariant-loop-priority
invariant-loop-priority l = record {
  none : (p : ℕ) → 1 ≤ p → p < l.priority → map.get l.array p ≡ None;
  places : 1 < l.priority → HasSixteenPlaces l.array;
}
