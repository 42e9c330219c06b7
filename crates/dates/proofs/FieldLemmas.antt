-- The text of a field reads as that field.
use Rattle.std.proofs.Common.{◌≡◌, ◌≢◌, ℕ, ◌+◌, ◌*◌, ◌/◌, ◌%◌, ◌<◌, refl, ap, arith}
use Rattle.std.proofs.Common.{Bool, true, false, length, codes, Option, Some, None}
use Rattle.std.specs.Int.{IsInRange}
use Rattle.std.specs.Str.{bytes_eq}
use Rattle.std.proofs.lemmas.Bool.Decides.{nat_tests}
use Rattle.std.proofs.lemmas.Slice.Eq.{bytes_eq-Decides}
use Rattle.jiff_core.specs.declared.civil.weekday.Weekday.{Weekday}
use Rattle.jiff_core.specs.declared.civil.weekday.Weekday.TheVariants.{Monday, Tuesday, Wednesday, Thursday, Friday, Saturday, Sunday}
use Rattle.dates.specs.declared.months.Months.{Months}
use Rattle.dates.specs.declared.months.Months.TheVariants as month
use Rattle.dates.specs.declared.month_days.MonthDays.{MonthDays}
use Rattle.dates.specs.declared.month_days.MonthDays.TheVariants as month_day
use Rattle.dates.specs.declared.week.Week.{Week}
use Rattle.dates.specs.declared.week.Week.TheVariants.{First, Second, Third, Fourth, Fifth, Last, SecondLast, ThirdLast, FourthLast}
use Rattle.dates.specs.Between.{between}
use Rattle.dates.specs.MonthDays.{month_days_at, AreMonthDays, month_days_text}
use Rattle.dates.specs.Months.{months_at, AreMonths, months_text}
use Rattle.dates.specs.Notation.{digit_at, two_digits, four_digits, two_digit_text, four_digit_text}
use Rattle.points.specs.Texts.{Text}
use Rattle.dates.specs.Week.{week_at, weeks_at, weeks_text}
use Rattle.dates.specs.Weekday.{weekday_at, weekdays_at, weekdays_text, weekday_text}
use Rattle.dates.specs.Year.{years_at, AreYears, years_text}

-- ---- from a field to its text and back

digit_at-digit : (d : ℕ) → d < 10 → digit_at (48 + d) ≡ Some d
unfolding digit_at
digit_at-digit d low = grind (arith, nat_tests)

between-some : (low high n : ℕ) → IsInRange low high n → between low high n ≡ Some n
between-some low high n h = grind (arith, nat_tests)

pub two_digits-text : (n : ℕ) → n < 100 → two_digits (two_digit_text n) ≡ Some n
unfolding two_digits
two_digits-text n low =
    let sum : 10 * (n / 10) + n % 10 ≡ n = omega arith in
    rw (digit_at-digit (n / 10) (omega arith), digit_at-digit (n % 10) (omega arith)) (ap Some sum)

pub four_digits-text : (n : ℕ) → n < 10000 → four_digits (four_digit_text n) ≡ Some n
unfolding four_digits
four_digits-text n low =
    let sum : 1000 * (n / 100 / 10) + 100 * (n / 100 % 10) + 10 * (n % 100 / 10) + n % 100 % 10 ≡ n = omega arith in
    rw (
      digit_at-digit (n / 100 / 10) (omega arith),
      digit_at-digit (n / 100 % 10) (omega arith),
      digit_at-digit (n % 100 / 10) (omega arith),
      digit_at-digit (n % 100 % 10) (omega arith),
    ) (ap Some sum)

-- texts of two lengths are not the same
pub bytes_eq-length : (xs ys : Text) → length xs ≢ length ys → bytes_eq xs ys ≡ false
bytes_eq-length xs ys apart = by_test (bytes_eq xs ys) refl
  where
    by_test : (test : Bool) → bytes_eq xs ys ≡ test → bytes_eq xs ys ≡ false
    by_test true e = absurd (apart (ap length ((bytes_eq-Decides xs ys).0 e)))
    by_test false e = e

pub years_at-text : (y : Option ℕ) → AreYears y → years_at (years_text y) ≡ Some y
unfolding years_at
years_at-text None h = refl
years_at-text (Some n) h =
    rw (bytes_eq-length (four_digit_text n) (codes "*") (omega arith), four_digits-text n (omega arith), between-some 1900 2154 n h) refl

pub months_at-text : (m : Months) → AreMonths m → months_at (months_text m) ≡ Some m
unfolding months_at
months_at-text month.Any h = refl
months_at-text month.Odd h = refl
months_at-text month.Even h = refl
months_at-text (month.One n) h =
    rw (
      bytes_eq-length (two_digit_text n) (codes "*") (omega arith),
      bytes_eq-length (two_digit_text n) (codes "odd") (omega arith),
      bytes_eq-length (two_digit_text n) (codes "even") (omega arith),
      two_digits-text n (omega arith),
      between-some 1 12 n h,
    ) refl

pub month_days_at-text : (d : MonthDays) → AreMonthDays d → month_days_at (month_days_text d) ≡ Some d
unfolding month_days_at
month_days_at-text month_day.Any h = refl
month_days_at-text month_day.Last h = refl
month_days_at-text month_day.Odd h = refl
month_days_at-text month_day.Even h = refl
month_days_at-text (month_day.One n) h =
    rw (
      bytes_eq-length (two_digit_text n) (codes "*") (omega arith),
      bytes_eq-length (two_digit_text n) (codes "last") (omega arith),
      bytes_eq-length (two_digit_text n) (codes "odd") (omega arith),
      bytes_eq-length (two_digit_text n) (codes "even") (omega arith),
      two_digits-text n (omega arith),
      between-some 1 31 n h,
    ) refl

pub weekday_at-text : (w : Weekday) → weekday_at (weekday_text w) ≡ Some w
unfolding weekday_at
weekday_at-text Monday = refl
weekday_at-text Tuesday = refl
weekday_at-text Wednesday = refl
weekday_at-text Thursday = refl
weekday_at-text Friday = refl
weekday_at-text Saturday = refl
weekday_at-text Sunday = refl

pub weekdays_at-text : (w : Option Weekday) → weekdays_at (weekdays_text w) ≡ Some w
unfolding weekdays_at weekday_at
weekdays_at-text None = refl
weekdays_at-text (Some Monday) = refl
weekdays_at-text (Some Tuesday) = refl
weekdays_at-text (Some Wednesday) = refl
weekdays_at-text (Some Thursday) = refl
weekdays_at-text (Some Friday) = refl
weekdays_at-text (Some Saturday) = refl
weekdays_at-text (Some Sunday) = refl

pub weeks_at-text : (w : Option Week) → weeks_at (weeks_text w) ≡ Some w
unfolding weeks_at week_at
weeks_at-text None = refl
weeks_at-text (Some First) = refl
weeks_at-text (Some Second) = refl
weeks_at-text (Some Third) = refl
weeks_at-text (Some Fourth) = refl
weeks_at-text (Some Fifth) = refl
weeks_at-text (Some Last) = refl
weeks_at-text (Some SecondLast) = refl
weeks_at-text (Some ThirdLast) = refl
weeks_at-text (Some FourthLast) = refl
