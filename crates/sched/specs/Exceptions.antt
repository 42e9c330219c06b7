-- Which exception gives a schedule its value: one whose period has the day, by EventPriority, then by place.
use Rattle.std.specs.Prelude.{ℕ, Bool, false, ◌&&◌, nat_lt, if◌then◌else◌, List, Option, Some, None, ℤ, is_some, option_and_then, slice_get}
use Rattle.std.specs.Option.{option_map_or}
use Rattle.jiff_core.specs.declared.civil.date.Date.{Date}
use Rattle.dates.specs.Entry.{holds_on}
use Rattle.sched.specs.declared.calendar.Calendar.{Calendar}
use Rattle.sched.specs.declared.exception.Exception.{Exception}
use Rattle.sched.specs.declared.exception.Period.{Period}
use Rattle.sched.specs.declared.exception.Period.TheVariants as period
use Rattle.sched.specs.Calendar.{calendar_holds}
use Rattle.sched.specs.Chosen.{chosen}
use Rattle.sched.specs.DayList.{list_value}

-- the days of an exception: those of its entry, or of the calendar that it names
abbrev pub in_period : List Calendar → Date → Period → Bool
in_period calendars day (period.Entry entry) = holds_on entry day
in_period calendars day (period.Calendar id) = option_map_or (λ calendar. calendar_holds calendar day) (slice_get calendars id.index) false

abbrev pub in_effect : List Calendar → Date → Exception → Bool
in_effect calendars day exception = in_period calendars day exception.period

-- an exception that is in effect, with a value other than NULL now
abbrev pub speaks : List Calendar → Date → ℕ → Exception → Bool
speaks calendars day time exception = in_effect calendars day exception && is_some (list_value exception.times time)

-- an exception gives way to one after it of a lower EventPriority number
abbrev pub gives_way_to_lower : Exception → Exception → Bool
gives_way_to_lower x y = nat_lt y.event_priority x.event_priority

-- of an exception that speaks, if there is one, and one behind it, the one that does not give way
abbrev pub lower_first : Option Exception → Exception → Option Exception
lower_first None next = Some next
lower_first (Some best) next = if gives_way_to_lower best next then Some next else Some best

-- of the exceptions that speak, the least by EventPriority and then by index
unfoldable pub exception_now : List Calendar → Date → ℕ → List Exception → Option Exception
exception_now calendars day time exceptions = chosen (speaks calendars day time) gives_way_to_lower exceptions

-- the value that the exceptions give, if one speaks
abbrev pub exceptional_value : List Calendar → Date → ℕ → List Exception → Option ℤ
exceptional_value calendars day time exceptions =
    option_and_then (λ exception. list_value exception.times time) (exception_now calendars day time exceptions)
