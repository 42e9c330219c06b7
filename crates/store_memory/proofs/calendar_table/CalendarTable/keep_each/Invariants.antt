use Rattle.std.proofs.Common.{◌≡◌, ◌||◌, drop, map}
use Rattle.std.specs.List.{list_any}
use Rattle.std.specs.Str.{bytes_eq}
use Rattle.dates.specs.Entry.{spelling}
use Rattle.points.specs.Texts.{Text}
use Rattle.store_memory.specs.Slots.{has_text}
use Rattle.store_memory.proofs.calendar_table.CalendarTable.keep_each.Given as goal

-- what the rest of the entries will be beside what stands now
abbrev pub invariant-loop-entry : goal.invariant-loop-entry
invariant-loop-entry l = (q : Text)
    → (list_any (bytes_eq q) (map spelling (drop l.entry-index l.entries)) || has_text l.self.entries q)
    ≡ (list_any (bytes_eq q) (map spelling l.entries) || has_text l.fn.self.entries q)
