-- Whether an entry holds on a day at all.
use Rattle.std.specs.Prelude.{◌≡◌, ◌↔◌, ℕ, zero, suc, ◌+◌, nat_le, Bool, true, false, ◌&&◌, ◌||◌, int_le, Option, Some, None}
use Rattle.std.specs.Option.{option_map_or}
use Rattle.jiff_core.specs.Date.{epoch_day}
use Rattle.jiff_core.specs.declared.civil.date.Date.{Date}
use Rattle.dates.specs.Day.{IsOfYears, day_of}
use Rattle.dates.specs.Entry.{holds_on}
use Rattle.dates.specs.declared.entry.Entry.{Entry}
use Rattle.dates.specs.declared.month_days.MonthDays.{MonthDays}
use Rattle.dates.specs.declared.month_days.MonthDays.TheVariants as days
use Rattle.dates.specs.declared.months.Months.{Months}
use Rattle.dates.specs.declared.months.Months.TheVariants as months
use Rattle.dates.specs.declared.range.Range.{Range}

-- a number from the first on and before the end passes a test
unfoldable pub some_between : ℕ → ℕ → (ℕ → Bool) → Bool
some_between first zero test = false
some_between first (suc n) test = (nat_le first n && test n) || some_between first n test

-- there is a day with these parts, and the entry holds on it
abbrev pub holds_at : Entry → ℕ → ℕ → ℕ → Bool
holds_at entry year month day = option_map_or (holds_on entry) (day_of year month day) false

-- a day of such a month, of such months and of such years, each from the first and before the end
abbrev pub holds_in_days : Entry → ℕ × ℕ → ℕ → ℕ → Bool
holds_in_days entry days year month = some_between days.0 days.1 (holds_at entry year month)

abbrev pub holds_in_months : Entry → ℕ × ℕ → ℕ × ℕ → ℕ → Bool
holds_in_months entry months days year = some_between months.0 months.1 (holds_in_days entry days year)

abbrev pub holds_in_years : Entry → ℕ × ℕ → ℕ × ℕ → ℕ × ℕ → Bool
holds_in_years entry years months days = some_between years.0 years.1 (holds_in_months entry months days)

-- the entry holds on some day from 1900-01-01 to 2154-12-31
unfoldable pub holds_on_some_day : Entry → Bool
holds_on_some_day entry = holds_in_years entry (1900, 2155) (1, 13) (1, 32)

-- the law of it
abbrev pub HoldsOnADay : Type 0
HoldsOnADay = (entry : Entry)
    → (holds_on_some_day entry ≡ true) ↔ ((day : Date) × IsOfYears day × (holds_on entry day ≡ true))

-- ---- what is tried

abbrev pub years_tried : Option ℕ → ℕ × ℕ
years_tried None = (1900, 2155)
years_tried (Some year) = (year, year + 1)

abbrev pub months_tried : Months → ℕ × ℕ
months_tried months.Any = (1, 13)
months_tried months.Odd = (1, 13)
months_tried months.Even = (1, 13)
months_tried (months.One month) = (month, month + 1)

abbrev pub days_tried : MonthDays → ℕ × ℕ
days_tried days.Any = (1, 32)
days_tried days.Last = (1, 32)
days_tried days.Odd = (1, 32)
days_tried days.Even = (1, 32)
days_tried (days.One day) = (day, day + 1)

-- the start is not after the end, where a range has both
abbrev pub starts_by_end : Option Date → Option Date → Bool
starts_by_end None end = true
starts_by_end (Some start) None = true
starts_by_end (Some start) (Some end) = int_le (epoch_day start) (epoch_day end)

abbrev pub is_range_of_days : Range → Bool
is_range_of_days range = starts_by_end range.start range.end
