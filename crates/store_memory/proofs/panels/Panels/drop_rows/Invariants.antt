use Rattle.std.proofs.Common.{◌≡◌, drop}
use Rattle.store.specs.Change.{with_each, without_rows}
use Rattle.store_memory.specs.Held.{next_of, row_of}
use Rattle.store_memory.proofs.panels.Panels.drop_rows.Given as goal

abbrev pub invariant-loop-item : goal.invariant-loop-item
invariant-loop-item l = record {
  rows : with_each without_rows (drop l.item-index l.dropped) (row_of l.self) ≡ with_each without_rows l.dropped (row_of l.fn.self);
  next : next_of l.self ≡ next_of l.fn.self;
}
