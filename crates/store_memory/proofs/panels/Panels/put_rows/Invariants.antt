use Rattle.std.proofs.Common.{◌≡◌, drop}
use Rattle.store.specs.Change.{with_each, with_row}
use Rattle.store_memory.specs.Held.{KeepsRoom, next_of, row_of}
use Rattle.store_memory.proofs.panels.Panels.put_rows.Given as goal

abbrev pub invariant-loop-item : goal.invariant-loop-item
invariant-loop-item l = record {
  rows : with_each with_row (drop l.item-index l.rows) (row_of l.self) ≡ with_each with_row l.rows (row_of l.fn.self);
  next : next_of l.self ≡ next_of l.fn.self;
  room : KeepsRoom l.fn.self l.self;
}
