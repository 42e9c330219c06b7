-- The months that a date pattern or a week-and-day names.
use Rattle.std.specs.Prelude.{ℕ, ◌%◌, ◌==◌, Bool, true, codes, Option, Some, None, option_map, option_and_then, if◌then◌else◌}
use Rattle.std.specs.Int.{IsInRange}
use Rattle.std.specs.Str.{bytes_eq}
use Rattle.jiff_core.specs.declared.civil.date.Date.{Date}
use Rattle.dates.specs.declared.months.Months.{Months}
use Rattle.dates.specs.declared.months.Months.TheVariants.{Any, Odd, Even, One}
use Rattle.dates.specs.Between.{between}
use Rattle.dates.specs.Notation.{two_digits, two_digit_text}
use Rattle.points.specs.Texts.{Text}

-- the numbers are in range
abbrev pub AreMonths : Months → Type 0
AreMonths Any = Unit {0}
AreMonths Odd = Unit {0}
AreMonths Even = Unit {0}
AreMonths (One number) = IsInRange 1 12 number

-- the one number that the field names
abbrev pub one_month : Months → Option ℕ
one_month (One number) = Some number
one_month Any = None
one_month Odd = None
one_month Even = None

-- the days of these months
abbrev pub in_months : Months → Date → Bool
in_months Any day = true
in_months Odd day = day.month % 2 == 1
in_months Even day = day.month % 2 == 0
in_months (One number) day = day.month == number

-- two digits from 01 to 12, the odd ones, the even ones, or any
unfoldable pub months_at : Text → Option Months
months_at text =
    if bytes_eq text (codes "*") then Some Any
    else if bytes_eq text (codes "odd") then Some Odd
    else if bytes_eq text (codes "even") then Some Even
    else option_map One (option_and_then (between 1 12) (two_digits text))

abbrev pub months_text : Months → Text
months_text Any = codes "*"
months_text Odd = codes "odd"
months_text Even = codes "even"
months_text (One number) = two_digit_text number
