use Rattle.std.proofs.Common.{◌≡◌, ◌++◌, take, string_bytes}
use Rattle.std.specs.List.{flat_map}
use Rattle.desk.specs.ReportLines.{schedule_lines}
use Rattle.desk.proofs.whole_report.push_schedules.Given as goal

-- what was written, with the schedules so far
abbrev pub invariant-loop-schedule : goal.invariant-loop-schedule
invariant-loop-schedule l =
    string_bytes l.text ≡ string_bytes l.initial.text ++ flat_map (schedule_lines l.calendars l.day) (take l.schedule-index l.schedules)
