use Rattle.std.proofs.Common.{◌≡◌, IsSome, drop}
use Rattle.store.specs.Change.{with_each, with_shown}
use Rattle.store_memory.specs.Held.{shown_of, shown_slot}
use Rattle.points.specs.Texts.{Text}
use Rattle.store_memory.proofs.shown_values.ShownValues.put.Given as goal

abbrev pub invariant-loop-item : goal.invariant-loop-item
invariant-loop-item l = record {
  shown : with_each with_shown (drop l.item-index l.shown) (shown_of l.self) ≡ with_each with_shown l.shown (shown_of l.fn.self);
  room : (q : Text) → IsSome (shown_slot l.fn.self q) → IsSome (shown_slot l.self q);
}
