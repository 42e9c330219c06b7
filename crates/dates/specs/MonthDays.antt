-- The days of the month that a date pattern names.
use Rattle.std.specs.Prelude.{ℕ, ◌%◌, ◌==◌, Bool, true, codes, Option, Some, None, option_map, option_and_then, if◌then◌else◌}
use Rattle.std.specs.Int.{IsInRange}
use Rattle.std.specs.Str.{bytes_eq}
use Rattle.jiff_core.specs.declared.civil.date.Date.{Date}
use Rattle.dates.specs.declared.month_days.MonthDays.{MonthDays}
use Rattle.dates.specs.declared.month_days.MonthDays.TheVariants.{Any, Last, Odd, Even, One}
use Rattle.dates.specs.Between.{between}
use Rattle.dates.specs.Day.{days_left}
use Rattle.dates.specs.Notation.{two_digits, two_digit_text}
use Rattle.points.specs.Texts.{Text}

-- the numbers are in range
abbrev pub AreMonthDays : MonthDays → Type 0
AreMonthDays Any = Unit {0}
AreMonthDays Last = Unit {0}
AreMonthDays Odd = Unit {0}
AreMonthDays Even = Unit {0}
AreMonthDays (One number) = IsInRange 1 31 number

-- the one number that the field names
abbrev pub one_month_day : MonthDays → Option ℕ
one_month_day (One number) = Some number
one_month_day Any = None
one_month_day Last = None
one_month_day Odd = None
one_month_day Even = None

-- the days that are these in their month
abbrev pub in_month_days : MonthDays → Date → Bool
in_month_days Any day = true
in_month_days Last day = days_left day == 0
in_month_days Odd day = day.day % 2 == 1
in_month_days Even day = day.day % 2 == 0
in_month_days (One number) day = day.day == number

-- two digits from 01 to 31, the last one, the odd ones, the even ones, or any
unfoldable pub month_days_at : Text → Option MonthDays
month_days_at text =
    if bytes_eq text (codes "*") then Some Any
    else if bytes_eq text (codes "last") then Some Last
    else if bytes_eq text (codes "odd") then Some Odd
    else if bytes_eq text (codes "even") then Some Even
    else option_map One (option_and_then (between 1 31) (two_digits text))

abbrev pub month_days_text : MonthDays → Text
month_days_text Any = codes "*"
month_days_text Last = codes "last"
month_days_text Odd = codes "odd"
month_days_text Even = codes "even"
month_days_text (One number) = two_digit_text number
