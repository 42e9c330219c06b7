use Rattle.std.proofs.Common.{◌≡◌, ◌++◌}
use Rattle.store_memory.specs.Held.{stands_calendar}
use Rattle.store_memory.specs.Slots.{standing_keys}
use Rattle.store_memory.proofs.calendars.Calendars.names.Given as goal

abbrev pub invariant-loop-name : goal.invariant-loop-name
invariant-loop-name l = l.names.items ++ standing_keys stands_calendar l.name-iterator ≡ standing_keys stands_calendar l.self.tables.entries
