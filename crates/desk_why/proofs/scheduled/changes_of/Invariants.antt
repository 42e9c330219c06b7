use Rattle.std.proofs.Common.{◌≡◌, take}
use Rattle.std.specs.List.{filter_map}
use Rattle.desk_settling.specs.Turns.{now_at}
use Rattle.desk_why.specs.NextChanges.{change_at}
use Rattle.desk_why.proofs.scheduled.changes_of.Given as goal

-- those of the schedules so far
abbrev pub invariant-loop-schedule : goal.invariant-loop-schedule
invariant-loop-schedule l =
    l.changes.items ≡ filter_map (change_at (now_at l.calendars l.local) l.point) (take l.schedule-index l.schedules)
