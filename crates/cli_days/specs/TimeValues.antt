-- The time values of a list as they count: at each of its times the value from there on.
use Rattle.std.specs.Prelude.{ℕ, ℤ, Bool, List, ◌∷◌, ◌++◌, filter, is_some, Option}
use Rattle.std.specs.List.{flat_map, list_any, range_with_len}
use Rattle.points.specs.Texts.{Text}
use Rattle.sched.specs.declared.day_list.TimeValue.{TimeValue}
use Rattle.sched.specs.declared.time.TheConstants.{HUNDREDTHS_A_DAY}
use Rattle.sched.specs.ByTime.{is_named}
use Rattle.sched.specs.DayList.{list_value, times_of}
use Rattle.sched.specs.TimeText.{time_text}
use Rattle.cli_days.specs.Words.{value_text}

-- the numbers below a bound that are among some, each once and in order
unfoldable pub in_order : ℕ → List ℕ → List ℕ
in_order bound numbers = filter (is_named numbers) (range_with_len 0 bound)

-- the times of a day that a list names
abbrev pub named_times : List TimeValue → List ℕ
named_times list = in_order HUNDREDTHS_A_DAY (times_of list)

-- at one of these times the value of the list is not NULL
abbrev pub has_value : List TimeValue → List ℕ → Bool
has_value list times = list_any (λ time. is_some (list_value list time)) times

unfoldable pub time_value_text : ℕ → Option ℤ → Text
time_value_text time value = 32 ∷ (time_text time ++ (61 ∷ value_text value))

-- a time, and the value from there on
abbrev pub text_at : List TimeValue → ℕ → Text
text_at list time = time_value_text time (list_value list time)

abbrev pub time_values_text : List TimeValue → Text
time_values_text list = flat_map (text_at list) (named_times list)
