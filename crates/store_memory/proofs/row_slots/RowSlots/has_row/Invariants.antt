use Rattle.std.proofs.Common.{◌≡◌, is_some}
use Rattle.std.specs.List.{list_any}
use Rattle.std.specs.VecDeque.Iter.{deque_iter_rest}
use Rattle.store_memory.specs.RowSlots.{has_row, row_for}
use Rattle.store_memory.proofs.row_slots.RowSlots.has_row.Given as goal

abbrev pub invariant-loop-slot : goal.invariant-loop-slot
invariant-loop-slot l = list_any (λ slot. is_some (row_for l.self slot.number)) (deque_iter_rest l.slot-iterator) ≡ has_row l.self
