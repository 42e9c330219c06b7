use Rattle.std.proofs.Common.{◌≡◌, IsSome, drop}
use Rattle.store.specs.Change.{with_each, with_place}
use Rattle.store_memory.specs.Held.{array_at, places_of}
use Rattle.points.specs.Texts.{Text}
use Rattle.store_memory.proofs.arrays.Arrays.put.Given as goal

abbrev pub invariant-loop-item : goal.invariant-loop-item
invariant-loop-item l = record {
  places : with_each with_place (drop l.item-index l.places) (places_of l.self) ≡ with_each with_place l.places (places_of l.fn.self);
  room : (q : Text) → IsSome (array_at l.fn.self q) → IsSome (array_at l.self q);
}
