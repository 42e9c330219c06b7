-- A civil day of a year from 1900 to 2154.
use Rattle.std.specs.Prelude.{◌≡◌, ℕ, ◌-◌, ◌≤◌, Bool, true, false, ◌&&◌, ◌++◌, ℤ, pos, unsigned_abs, codes, refl}
use Rattle.std.specs.Prelude.{Option, Some, None, option_map}
use Rattle.std.specs.Cmp.{first_so, second_so}
use Rattle.std.specs.Int.{IsInRange}
use Rattle.std.proofs.Common.{lit≤}
use Rattle.std.proofs.Math.Nat.{le_trans}
use Rattle.std.proofs.lemmas.Bool.{leb-true, le-leb}
use Rattle.std.proofs.lemmas.Float.{T_from_true}
use Rattle.jiff_core.specs.Calendar.{IsBetween, IsDate, IsYear, days_in_month}
use Rattle.jiff_core.specs.Date.{month_length}
use Rattle.jiff_core.specs.declared.civil.date.Date.{Date}
use Rattle.dates.specs.Between.{is_between}
use Rattle.dates.specs.Notation.{two_digit_text, four_digit_text}
use Rattle.points.specs.Texts.{Text}

-- the parts of a day that the calendar has, in such a year
abbrev pub IsDay : ℤ → ℕ → ℕ → Type 0
IsDay year month day = IsBetween (pos 1900) (pos 2154) year × IsDate year (pos month) (pos day)

-- the same, as a test
abbrev pub is_day : ℕ → ℕ → ℕ → Bool
is_day year month day =
    is_between 1900 2154 year
    && (is_between 1 12 month && is_between 1 (days_in_month (pos year) month) day)

-- a date of the calendar in such a year
abbrev pub IsOfYears : Date → Type 0
IsOfYears day = IsBetween (pos 1900) (pos 2154) day.year

-- how many days follow a day in its month
abbrev pub days_left : Date → ℕ
days_left date = month_length date - date.day

-- YYYY-MM-DD
abbrev pub day_text : Date → Text
day_text day =
    four_digit_text (unsigned_abs day.year)
    ++ (codes "-" ++ (two_digit_text day.month ++ (codes "-" ++ two_digit_text day.day)))

-- the text is YYYY-MM-DD of a day from 1900-01-01 to 2154-12-31
abbrev pub SpellsDay : Text → Date → Type 0
SpellsDay text day = (text ≡ day_text day) × IsOfYears day

-- ---- the day with these parts, if there is one

-- that a test passes, if it does
abbrev pub passed : (test : Bool) → Option (test ≡ true)
passed true = Some refl
passed false = None

pub is_between-true : (low high n : ℕ) → is_between low high n ≡ true → IsInRange low high n
is_between-true low high n e =
    (leb-true low n (first_so _ _ e), leb-true n high (second_so _ _ e))

pub is_day-year : (y m d : ℕ) → is_day y m d ≡ true → IsYear (pos y)
is_day-year y m d e =
    let below : y ≤ 2154 = (is_between-true 1900 2154 y (first_so _ _ e)).1 in
    (record { le = tt }, record { le = T_from_true _ (le-leb y 9999 (le_trans below (lit≤ tt))) })

pub is_day-month : (y m d : ℕ) → is_day y m d ≡ true → IsInRange 1 12 m
is_day-month y m d e = is_between-true 1 12 m (first_so _ _ (second_so _ _ e))

pub is_day-day : (y m d : ℕ) → is_day y m d ≡ true → IsInRange 1 (days_in_month (pos y) m) d
is_day-day y m d e = is_between-true 1 _ d (second_so _ _ (second_so _ _ e))

abbrev pub day_with : (y m d : ℕ) → is_day y m d ≡ true → Date
day_with y m d ok = record {
  year = pos y;
  month = m;
  day = d;
  year_in = is_day-year y m d ok;
  month_in = is_day-month y m d ok;
  day_in = is_day-day y m d ok;
}

unfoldable pub day_of : ℕ → ℕ → ℕ → Option Date
day_of y m d = option_map (day_with y m d) (passed (is_day y m d))
