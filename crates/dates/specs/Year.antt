-- The years that a date pattern names: one from 1900 to 2154, or any.
use Rattle.std.specs.Prelude.{ℕ, Bool, true, pos, codes, Option, Some, None, option_map, option_and_then, if◌then◌else◌}
use Rattle.std.specs.Int.{IsInRange}
use Rattle.std.specs.Ordering.{int_eq}
use Rattle.std.specs.Str.{bytes_eq}
use Rattle.jiff_core.specs.declared.civil.date.Date.{Date}
use Rattle.dates.specs.Between.{between}
use Rattle.dates.specs.Notation.{four_digits, four_digit_text}
use Rattle.points.specs.Texts.{Text}

-- the numbers are in range
abbrev pub AreYears : Option ℕ → Type 0
AreYears None = Unit {0}
AreYears (Some number) = IsInRange 1900 2154 number

-- the days of these years
abbrev pub in_years : Option ℕ → Date → Bool
in_years None day = true
in_years (Some number) day = int_eq day.year (pos number)

-- four digits from 1900 to 2154, or any
unfoldable pub years_at : Text → Option (Option ℕ)
years_at text =
    if bytes_eq text (codes "*") then Some None
    else option_map Some (option_and_then (between 1900 2154) (four_digits text))

abbrev pub years_text : Option ℕ → Text
years_text None = codes "*"
years_text (Some number) = four_digit_text number
