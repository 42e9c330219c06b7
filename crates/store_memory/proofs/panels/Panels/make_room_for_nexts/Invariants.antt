use Rattle.std.proofs.Common.{ℕ, ◌<◌, IsSome, get_or}
use Rattle.store_memory.specs.Held.{Grows, table_at}
use Rattle.store_memory.proofs.panels.Panels.make_room_for_nexts.Given as goal

abbrev pub invariant-loop-item : goal.invariant-loop-item
invariant-loop-item l = record {
  room : (k : ℕ) (d : _) → k < l.item-index → IsSome (table_at l.self (get_or l.nexts k d).panel);
  grows : Grows l.fn.self l.self;
}
