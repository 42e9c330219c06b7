-- What gives the value of a schedule.
use Rattle.std.specs.Prelude.{ℕ, Bool, ◌&&◌, ◌==◌, if◌then◌else◌, List, Option, Some, None, is_some, option_and_then, option_map, slice_get, position}
use Rattle.jiff_core.specs.declared.civil.date.Date.{Date}
use Rattle.sched.specs.declared.calendar.Calendar.{Calendar}
use Rattle.sched.specs.declared.exception.Exception.{Exception}
use Rattle.sched.specs.declared.schedule.Schedule.{Schedule}
use Rattle.sched.specs.DayList.{list_value}
use Rattle.sched.specs.Exceptions.{exception_now, speaks}
use Rattle.sched.specs.Schedule.{weekday_list}
use Rattle.sched.specs.declared.source.Source.{Source}
use Rattle.sched.specs.declared.source.Source.TheVariants.{Exception as by_exception, Weekly, Default}

-- an exception that speaks, at this EventPriority
abbrev pub speaks_at : List Calendar → Date → ℕ → ℕ → Exception → Bool
speaks_at calendars day time event_priority exception = speaks calendars day time exception && exception.event_priority == event_priority

-- the index of the exception that is heard: the first that speaks at its EventPriority
abbrev pub index_now : List Calendar → Date → ℕ → List Exception → Option ℕ
index_now calendars day time exceptions =
    option_and_then (λ found. position (speaks_at calendars day time found.event_priority) exceptions)
    (exception_now calendars day time exceptions)

abbrev pub exception_source : List Calendar → Date → ℕ → List Exception → Option Source
exception_source calendars day time exceptions =
    option_and_then (λ index. option_map (λ exception. by_exception index exception.period) (slice_get exceptions index))
    (index_now calendars day time exceptions)

-- the first that there is
abbrev pub source_or : Option Source → Source → Source
source_or (Some source) other = source
source_or None other = other

-- an exception that speaks; else the weekday's list, if its value is not NULL; else the default
unfoldable pub source_of : Schedule → List Calendar → Date → ℕ → Source
source_of schedule calendars day time =
    source_or (exception_source calendars day time schedule.exceptions)
    (if is_some (list_value (weekday_list schedule day) time) then Weekly day else Default)
