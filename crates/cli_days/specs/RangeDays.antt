-- The days of a range, one after the other.
use Rattle.std.specs.Prelude.{◌↔◌, ℕ, IsTrue, List, filter}
use Rattle.std.specs.List.{Contains, filter_map, flat_map, range_with_len}
use Rattle.jiff_core.specs.declared.civil.date.Date.{Date}
use Rattle.dates.specs.Day.{IsOfYears, day_of}
use Rattle.dates.specs.declared.range.Range.{Range}
use Rattle.dates.specs.Range.{in_range}

-- the days of a month, by the calendar
unfoldable pub month_days : ℕ → ℕ → List Date
month_days year month = filter_map (day_of year month) (range_with_len 1 31)

unfoldable pub year_days : ℕ → List Date
year_days year = flat_map (month_days year) (range_with_len 1 12)

-- the days from 1900-01-01 to 2154-12-31
unfoldable pub all_days : List Date
all_days = flat_map year_days (range_with_len 1900 255)

abbrev pub days_in : Range → List Date
days_in range = filter (in_range range) all_days

-- the law: of the days from 1900-01-01 to 2154-12-31 it has those that lie in it
abbrev pub RangeHasItsDays : Type 0
RangeHasItsDays = (range : Range) (day : Date) → IsOfYears day → Contains (days_in range) day ↔ IsTrue (in_range range day)
