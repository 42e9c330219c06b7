use Rattle.std.proofs.Common.{◌≡◌, take}
use Rattle.sched.specs.Calendar.{hold_on}
use Rattle.cli_days.proofs.today.calendars_on.Given as goal

abbrev pub invariant-loop-calendar : goal.invariant-loop-calendar
invariant-loop-calendar l = hold_on l.day l.today.items ≡ hold_on l.day (take l.calendar-index l.calendars)
