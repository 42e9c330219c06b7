use Rattle.std.proofs.Common.{◌≡◌, ◌++◌, take}
use Rattle.building_hints.specs.ChangedDays.{entries_for}
use Rattle.building_hints.proofs.changed_days.push_rows.Given as goal

abbrev pub invariant-loop-row : goal.invariant-loop-row
invariant-loop-row l = l.entries.items ≡ l.initial.entries.items ++ entries_for l.index (take l.row-index l.rows)
