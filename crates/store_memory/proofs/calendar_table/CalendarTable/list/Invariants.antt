use Rattle.std.proofs.Common.{◌≡◌, ◌++◌}
use Rattle.store_memory.proofs.TextLemmas.{kept}
use Rattle.store_memory.proofs.calendar_table.CalendarTable.list.Given as goal

abbrev pub invariant-loop-slot : goal.invariant-loop-slot
invariant-loop-slot l = l.list.items ++ kept l.slot-iterator ≡ kept l.self.entries.entries
