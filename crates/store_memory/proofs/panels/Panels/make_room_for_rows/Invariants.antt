use Rattle.std.proofs.Common.{ℕ, ◌<◌, IsSome, get_or}
use Rattle.store_memory.specs.Held.{Grows, slot_of}
use Rattle.store_memory.proofs.panels.Panels.make_room_for_rows.Given as goal

abbrev pub invariant-loop-item : goal.invariant-loop-item
invariant-loop-item l = record {
  room : (k : ℕ) (d : _) → k < l.item-index → IsSome (slot_of l.self (get_or l.rows k d).panel (get_or l.rows k d).number);
  grows : Grows l.fn.self l.self;
}
