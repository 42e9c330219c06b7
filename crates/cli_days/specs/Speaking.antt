-- Which exceptions speak at some time of a day.
use Rattle.std.specs.Prelude.{◌↔◌, ℕ, ◌<◌, Bool, false, ◌&&◌, IsTrue, List, filter, length, slice_get}
use Rattle.std.specs.List.{range_with_len}
use Rattle.std.specs.Option.{option_map_or}
use Rattle.jiff_core.specs.declared.civil.date.Date.{Date}
use Rattle.sched.specs.declared.calendar.Calendar.{Calendar}
use Rattle.sched.specs.declared.exception.Exception.{Exception}
use Rattle.sched.specs.declared.time.TheConstants.{HUNDREDTHS_A_DAY}
use Rattle.sched.specs.Exceptions.{in_effect, speaks}
use Rattle.cli_days.specs.TimeValues.{has_value, named_times}

-- it is in effect, and at one of its times its list has a value
abbrev pub speaks_on : List Calendar → Date → Exception → Bool
speaks_on calendars day exception = in_effect calendars day exception && has_value exception.times (named_times exception.times)

abbrev pub speaks_at_index : List Calendar → Date → List Exception → ℕ → Bool
speaks_at_index calendars day exceptions index = option_map_or (speaks_on calendars day) (slice_get exceptions index) false

-- the indices of those that speak
unfoldable pub speaking : List Calendar → Date → List Exception → List ℕ
speaking calendars day exceptions = filter (speaks_at_index calendars day exceptions) (range_with_len 0 (length exceptions))

-- the law: it speaks at some time of the day
abbrev pub SpeaksAtSomeTime : Type 0
SpeaksAtSomeTime = (calendars : List Calendar) (day : Date) (exception : Exception) → IsTrue (speaks_on calendars day exception)
    ↔ ((time : ℕ) × (time < HUNDREDTHS_A_DAY) × IsTrue (speaks calendars day time exception))
