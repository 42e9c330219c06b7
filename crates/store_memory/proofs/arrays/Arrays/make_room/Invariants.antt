use Rattle.std.proofs.Common.{◌≡◌, ℕ, ◌<◌, IsSome, get_or}
use Rattle.store_memory.specs.Held.{array_at, places_of}
use Rattle.points.specs.Texts.{Text}
use Rattle.store_memory.proofs.arrays.Arrays.make_room.Given as goal

abbrev pub invariant-loop-item : goal.invariant-loop-item
invariant-loop-item l = record {
  room : (k : ℕ) (d : _) → k < l.item-index → IsSome (array_at l.self (get_or l.places k d).point);
  same : (q : Text) → places_of l.self q ≡ places_of l.fn.self q;
}
