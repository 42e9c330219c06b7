-- The source of a value, beside what `sched` says of the value.
use Rattle.std.specs.Prelude.{◌≡◌, ℕ, ℤ, List, Option, option_and_then, slice_get}
use Rattle.jiff_core.specs.declared.civil.date.Date.{Date}
use Rattle.sched.specs.declared.calendar.Calendar.{Calendar}
use Rattle.sched.specs.declared.exception.Exception.{Exception}
use Rattle.sched.specs.declared.schedule.Schedule.{Schedule}
use Rattle.sched.specs.DayList.{list_value}
use Rattle.sched.specs.Exceptions.{exception_now}
use Rattle.sched.specs.Schedule.{schedule_value, weekday_list}
use Rattle.sched.specs.declared.source.Source.{Source}
use Rattle.sched.specs.declared.source.Source.TheVariants.{Exception as by_exception, Weekly, Default}
use Rattle.sched.specs.Sources.{index_now, source_of}

-- the value that a source has at a time
abbrev pub value_by : Schedule → ℕ → Source → Option ℤ
value_by schedule time (by_exception index period) =
    option_and_then (λ exception. list_value exception.times time) (slice_get schedule.exceptions index)
value_by schedule time (Weekly day) = list_value (weekday_list schedule day) time
value_by schedule time Default = schedule.default

-- at the index stands the exception that is chosen
abbrev pub IndexIsOfTheException : Type 0
IndexIsOfTheException = (calendars : List Calendar) (day : Date) (time : ℕ) (exceptions : List Exception)
    → option_and_then (λ index. slice_get exceptions index) (index_now calendars day time exceptions)
    ≡ exception_now calendars day time exceptions

-- the source's value is the schedule's
abbrev pub SourceHasTheValue : Type 0
SourceHasTheValue = (schedule : Schedule) (calendars : List Calendar) (day : Date) (time : ℕ)
    → value_by schedule time (source_of schedule calendars day time) ≡ schedule_value schedule calendars day time
