use Rattle.std.proofs.Common.{◌≡◌, ◌++◌, map, take}
use Rattle.store_copy.specs.Named.{item_for}
use Rattle.store_copy.proofs.calendars.add_list.Given as goal

-- the entries so far
abbrev pub invariant-loop-entry : goal.invariant-loop-entry
invariant-loop-entry l = l.items.items ≡ l.initial.items.items ++ map (item_for l.calendar) (take l.entry-index l.entries)
