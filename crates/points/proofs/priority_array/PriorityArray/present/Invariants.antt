use Rattle.std.proofs.Common.{◌≡◌, ◌<◌, ◌≤◌, ℕ, None}
use Rattle.std.specs.FinMap.{get}
use Rattle.points.specs.PriorityArray.{HasSixteenPlaces}
use Rattle.points.proofs.priority_array.PriorityArray.present.Given as goal

abbrev pub invariant-loop-priority : goal.invariant-loop-priority
invariant-loop-priority l = record {
  none : (q : ℕ) → 1 ≤ q → q < l.priority → get l.self q ≡ None;
  places : 1 < l.priority → HasSixteenPlaces l.self;
}
