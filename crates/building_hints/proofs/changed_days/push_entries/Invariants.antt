use Rattle.std.proofs.Common.{◌≡◌, ◌++◌, take}
use Rattle.building_hints.proofs.changed_days.push_entries.Given as goal

abbrev pub invariant-loop-entry : goal.invariant-loop-entry
invariant-loop-entry l = l.entries.items ≡ l.initial.entries.items ++ take l.entry-index l.more
