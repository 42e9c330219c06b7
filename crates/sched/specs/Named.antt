-- The times of a day at which a schedule's value can change.
use Rattle.std.specs.Prelude.{ℕ, if◌then◌else◌, List, [], ◌∷◌, ◌++◌}
use Rattle.std.specs.List.{flat_map}
use Rattle.jiff_core.specs.declared.civil.date.Date.{Date}
use Rattle.sched.specs.declared.calendar.Calendar.{Calendar}
use Rattle.sched.specs.declared.exception.Exception.{Exception}
use Rattle.sched.specs.declared.schedule.Schedule.{Schedule}
use Rattle.sched.specs.DayList.{times_of}
use Rattle.sched.specs.Exceptions.{in_effect}
use Rattle.sched.specs.Schedule.{weekday_list}

abbrev pub exception_times : List Calendar → Date → Exception → List ℕ
exception_times calendars day exception = if in_effect calendars day exception then times_of exception.times else []

-- midnight, and the times that the weekday's list and the exceptions in effect name
abbrev pub named_times : Schedule → List Calendar → Date → List ℕ
named_times schedule calendars day =
    0 ∷ (times_of (weekday_list schedule day) ++ flat_map (exception_times calendars day) schedule.exceptions)
