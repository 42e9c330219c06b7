use Rattle.std.proofs.Common.{◌≡◌, drop}
use Rattle.store.specs.Change.{with_each, with_next}
use Rattle.store_memory.specs.Held.{KeepsRoom, next_of, row_of}
use Rattle.store_memory.proofs.panels.Panels.put_nexts.Given as goal

abbrev pub invariant-loop-item : goal.invariant-loop-item
invariant-loop-item l = record {
  next : with_each with_next (drop l.item-index l.nexts) (next_of l.self) ≡ with_each with_next l.nexts (next_of l.fn.self);
  rows : row_of l.self ≡ row_of l.fn.self;
  room : KeepsRoom l.fn.self l.self;
}
