use Rattle.std.proofs.Common.{take}
use Rattle.std.specs.List.{flat_map}
use Rattle.std.specs.Io.KnownBytes.{Appends}
use Rattle.cli_days.specs.DayLines.{day_lines}
use Rattle.cli_days.proofs.days_run.print_each.Given as goal

-- the lines of the days so far
abbrev pub invariant-loop-day : goal.invariant-loop-day
invariant-loop-day g l = Appends (g.W.Write.contents l.initial.out) (g.W.Write.contents l.out)
    (flat_map (day_lines l.building l.calendars) (take l.day-index l.days))
