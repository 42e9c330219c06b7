use Rattle.std.proofs.Common.{◌≡◌, ℕ, ◌<◌, IsSome, get_or}
use Rattle.store_memory.specs.Held.{shown_of, shown_slot}
use Rattle.points.specs.Texts.{Text}
use Rattle.store_memory.proofs.shown_values.ShownValues.make_room.Given as goal

abbrev pub invariant-loop-item : goal.invariant-loop-item
invariant-loop-item l = record {
  room : (k : ℕ) (d : _) → k < l.item-index → IsSome (shown_slot l.self (get_or l.shown k d).schedule);
  same : (q : Text) → shown_of l.self q ≡ shown_of l.fn.self q;
}
