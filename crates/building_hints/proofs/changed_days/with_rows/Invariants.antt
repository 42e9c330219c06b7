use Rattle.std.proofs.Common.{◌≡◌, ◌++◌, drop}
use Rattle.building_hints.specs.ChangedDays.{with_rows}
use Rattle.building_hints.proofs.changed_days.with_rows.Given as goal

abbrev pub invariant-loop-index : goal.invariant-loop-index
invariant-loop-index l = l.made.items ++ with_rows l.rows l.index (drop l.index l.calendars) ≡ with_rows l.rows 0 l.calendars
