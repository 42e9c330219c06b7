-- The effective period of a schedule, and how exceptions, weekly list and schedule default rank for its value.
use Rattle.std.specs.Prelude.{ℕ, Bool, List, [], Option, Some, None, ℤ, slice_index_or}
use Rattle.jiff_core.specs.Date.{weekday_of}
use Rattle.jiff_core.specs.declared.civil.date.Date.{Date}
use Rattle.dates.specs.Range.{in_range}
use Rattle.sched.specs.declared.calendar.Calendar.{Calendar}
use Rattle.sched.specs.declared.day_list.TimeValue.{TimeValue}
use Rattle.sched.specs.declared.schedule.Schedule.{Schedule}
use Rattle.sched.specs.DayList.{list_value}
use Rattle.sched.specs.Exceptions.{exceptional_value}

-- a schedule is active on the days of its effective period
abbrev pub is_active : Schedule → Date → Bool
is_active schedule day = in_range schedule.effective_period day

-- the list of the day's weekday, Monday's first
abbrev pub weekday_list : Schedule → Date → List TimeValue
weekday_list schedule day = slice_index_or schedule.weekly (weekday_of day) []

-- the first that is not NULL
abbrev pub first_value : Option ℤ → Option ℤ → Option ℤ
first_value (Some value) other = Some value
first_value None other = other

-- the value of a schedule: an exception's, else the weekday's, else the default
unfoldable pub schedule_value : Schedule → List Calendar → Date → ℕ → Option ℤ
schedule_value schedule calendars day time =
    first_value (exceptional_value calendars day time schedule.exceptions)
    (first_value (list_value (weekday_list schedule day) time) schedule.default)
