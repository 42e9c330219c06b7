use Rattle.std.proofs.Common.{◌≡◌, string_bytes}
use Rattle.std.specs.BTreeMap.{keys}
use Rattle.std.specs.List.{list_any}
use Rattle.store_memory.specs.Slots.{has_text}
use Rattle.store_memory.proofs.calendar_table.CalendarTable.stands.Given as goal

abbrev pub invariant-loop-text : goal.invariant-loop-text
invariant-loop-text l =
    list_any (λ key. has_text l.self.entries (string_bytes key)) l.text-iterator
    ≡ list_any (λ key. has_text l.self.entries (string_bytes key)) (keys l.self.entries)
