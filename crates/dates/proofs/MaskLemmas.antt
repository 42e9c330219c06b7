-- What a mask names, and which numbers it has: each of the few numbers is tried.
use Rattle.std.proofs.Common.{◌≡◌, ◌≢◌, ⊎_elim, inl, inr, ℕ, zero, suc, ◌%◌, ◌^◌, ◌<◌, ◌≤◌, ◌==◌, w32}
use Rattle.std.proofs.Common.{Bool, true, false, not, ◌&&◌, ◌||◌, Option, Some, None, refl, sym, ap, ◌∙◌, arith}
use Rattle.std.specs.Int.{trailing_zeros}
use Rattle.std.proofs.lemmas.Bool.{and_parts, cases_eq, cases_lt, false≢true, or_cases}
use Rattle.std.proofs.lemmas.Bool.Decides.{nat_tests}
use Rattle.std.proofs.lemmas.Nat.{pow_below}
use Rattle.jiff_core.specs.Date.{weekday_of}
use Rattle.jiff_core.specs.Weekday.{monday_zero}
use Rattle.jiff_core.specs.declared.civil.date.Date.{Date}
use Rattle.jiff_core.specs.declared.civil.weekday.Weekday.{Weekday}
use Rattle.jiff_core.specs.declared.civil.weekday.Weekday.TheVariants.{Monday, Tuesday, Wednesday, Thursday, Friday, Saturday, Sunday}
use Rattle.jiff_core.proofs.CalendarLemmas.{days_in_month_bounds}
use Rattle.dates.specs.declared.month_days.MonthDays.{MonthDays}
use Rattle.dates.specs.declared.month_days.MonthDays.TheVariants as month_day
use Rattle.dates.specs.declared.months.Months.{Months}
use Rattle.dates.specs.declared.months.Months.TheVariants as month
use Rattle.dates.specs.declared.week.Week.{Week}
use Rattle.dates.specs.declared.week.Week.TheVariants.{First, Second, Third, Fourth, Fifth, Last, SecondLast, ThirdLast, FourthLast}
use Rattle.dates.specs.Between.{is_between}
use Rattle.dates.specs.Day.{days_left}
use Rattle.dates.specs.Masks.{any_day, any_days_left, day_mask, days_left_mask, has_bit, has_both, month_days_of, month_mask, months_of}
use Rattle.dates.specs.Masks.{week_mask, weekday_mask, weekdays_of, weeks_left_mask, weeks_of}
use Rattle.dates.specs.MonthDays.{AreMonthDays, in_month_days}
use Rattle.dates.specs.Months.{AreMonths, in_months}
use Rattle.dates.specs.Week.{in_weeks}
use Rattle.dates.specs.Weekday.{in_weekdays}

-- ---- a test of each number below a bound

abbrev all_below : (ℕ → Bool) → ℕ → Bool
all_below test zero = true
all_below test (suc n) = test n && all_below test n

below : (test : ℕ → Bool) (n k : ℕ) → all_below test n ≡ true → k < n → test k ≡ true
below test zero k all within = absurd (omega (arith, within))
below test (suc n) k all within = elim (cases_eq k n) [
  | inl same ↦ ap test same ∙ (and_parts (test n) _ all).0
  | inr apart ↦ below test n k (and_parts (test n) (all_below test n) all).1 (omega (arith, within, apart))
]

-- two tests agree
abbrev agree : Bool → Bool → Bool
agree true b = b
agree false b = not b

agreed : (a b : Bool) → agree a b ≡ true → a ≡ b
agreed true b e = sym e
agreed false true e = e
agreed false false e = refl

same : (one two : ℕ → Bool) (n k : ℕ) → all_below (λ i. agree (one i) (two i)) n ≡ true → k < n → one k ≡ two k
same one two n k all within = agreed (one k) (two k) (below (λ i. agree (one i) (two i)) n k all within)

-- 0 aside
from_1 : (one two : ℕ → Bool) (n k : ℕ) → all_below (λ i. (i == 0) || agree (one i) (two i)) n ≡ true → 1 ≤ k → k < n → one k ≡ two k
from_1 one two n k all low within = ⊎_elim
    (λ is. absurd (omega (arith, low, is_zero k is)))
    (λ e. agreed (one k) (two k) e)
    (or_cases (k == 0) _ (below (λ i. (i == 0) || agree (one i) (two i)) n k all within))
  where
    is_zero : (i : ℕ) → (i == 0) ≡ true → i ≡ 0
    is_zero i e = grind (arith, nat_tests)

-- a mask of one bit has that number alone
one_bit : (n k : ℕ) → n < 32 → k < 32 → has_bit (2 ^ n) k ≡ (k == n)
one_bit n k low within =
    same (λ i. has_bit (2 ^ n) i) (λ i. i == n) 32 k
    (below (λ j. all_below (λ i. agree (has_bit (2 ^ j) i) (i == j)) 32) 32 n refl low) within

-- and its lowest bit is that number
lowest_bit : (n : ℕ) → n < 32 → trailing_zeros w32 (2 ^ n) ≡ n
unfolding lib.Count.count_trailing_zeros
lowest_bit n low = is_same (trailing_zeros w32 (2 ^ n)) n (below (λ j. trailing_zeros w32 (2 ^ j) == j) 32 n refl low)
  where
    is_same : (i j : ℕ) → (i == j) ≡ true → i ≡ j
    is_same i j e = grind (arith, nat_tests)

-- a number between two powers is none
no_power : (n k c : ℕ) → 2 ^ k < c → c < 2 ^ suc k → 2 ^ n ≢ c
no_power n k c above under e = ⊎_elim
    (λ low. elim (cases_eq n k) [
      | inl is ↦ let p = ap (λ i. 2 ^ i) is in omega (arith, e, above, p)
      | inr apart ↦ let h = pow_below n k (omega (arith, low, apart)) in omega (arith, e, above, h)
    ])
    (λ high. elim (cases_eq n (suc k)) [
      | inl is ↦ let p = ap (λ i. 2 ^ i) is in omega (arith, e, under, p)
      | inr apart ↦ let h = pow_below (suc k) n (omega (arith, high, apart)) in omega (arith, e, under, h)
    ])
    (cases_lt n (suc k))

not_same : (i j : ℕ) → i ≢ j → (i == j) ≡ false
not_same i j apart = grind (arith, nat_tests)

same_power : (m n : ℕ) → 2 ^ m ≡ 2 ^ n → m ≡ n
same_power m n e = elim (cases_eq m n) [
  | inl is ↦ is
  | inr apart ↦ ⊎_elim (λ low. let h = pow_below m n low in absurd (omega (arith, h, e)))
      (λ high. let h = pow_below n m (omega (arith, high, apart)) in absurd (omega (arith, h, e))) (cases_lt m n)
]

-- ---- months

pub months_of-one : (mask : ℕ) → (mask == 0x1ffe) ≡ false → (mask == 0x0aaa) ≡ false → (mask == 0x1554) ≡ false
    → months_of mask ≡ month.One (trailing_zeros w32 mask)
months_of-one mask any odd even = rw (any, odd, even) refl

pub months_of-mask : (m : Months) → AreMonths m → months_of (month_mask m) ≡ m
months_of-mask month.Any h = refl
months_of-mask month.Odd h = refl
months_of-mask month.Even h = refl
months_of-mask (month.One n) h =
    months_of-one (2 ^ n)
    (not_same (2 ^ n) 0x1ffe (no_power n 12 0x1ffe (omega arith) (omega arith)))
    (not_same (2 ^ n) 0x0aaa (no_power n 11 0x0aaa (omega arith) (omega arith)))
    (not_same (2 ^ n) 0x1554 (no_power n 12 0x1554 (omega arith) (omega arith)))
    ∙ ap month.One (lowest_bit n (omega (arith, h)))

pub months_of-has : (m : Months) (day : Date) → AreMonths m → has_bit (month_mask m) day.month ≡ in_months m day
months_of-has month.Any day h =
    from_1 (has_bit 0x1ffe) (λ k. true) 13 day.month refl (omega (arith, day.month_in)) (omega (arith, day.month_in))
months_of-has month.Odd day h =
    from_1 (has_bit 0x0aaa) (λ k. k % 2 == 1) 13 day.month refl (omega (arith, day.month_in)) (omega (arith, day.month_in))
months_of-has month.Even day h =
    from_1 (has_bit 0x1554) (λ k. k % 2 == 0) 13 day.month refl (omega (arith, day.month_in)) (omega (arith, day.month_in))
months_of-has (month.One n) day h = one_bit n day.month (omega (arith, h)) (omega (arith, day.month_in))

pub month_mask-same : (a b : Months) → month_mask a ≡ month_mask b → a ≡ b
month_mask-same month.Any month.Any e = refl
month_mask-same month.Odd month.Odd e = refl
month_mask-same month.Even month.Even e = refl
month_mask-same (month.One m) (month.One n) e = ap month.One (same_power m n e)
month_mask-same (month.One m) month.Any e = absurd (no_power m 12 0x1ffe (omega arith) (omega arith) e)
month_mask-same (month.One m) month.Odd e = absurd (no_power m 11 0x0aaa (omega arith) (omega arith) e)
month_mask-same (month.One m) month.Even e = absurd (no_power m 12 0x1554 (omega arith) (omega arith) e)
month_mask-same month.Any (month.One n) e = absurd (no_power n 12 0x1ffe (omega arith) (omega arith) (sym e))
month_mask-same month.Odd (month.One n) e = absurd (no_power n 11 0x0aaa (omega arith) (omega arith) (sym e))
month_mask-same month.Even (month.One n) e = absurd (no_power n 12 0x1554 (omega arith) (omega arith) (sym e))
month_mask-same month.Any month.Odd e = absurd (omega (arith, e))
month_mask-same month.Any month.Even e = absurd (omega (arith, e))
month_mask-same month.Odd month.Any e = absurd (omega (arith, e))
month_mask-same month.Odd month.Even e = absurd (omega (arith, e))
month_mask-same month.Even month.Any e = absurd (omega (arith, e))
month_mask-same month.Even month.Odd e = absurd (omega (arith, e))

-- ---- days of the month

-- a day is at most the 31st, and at most 30 are left
pub day-low : (day : Date) → (1 ≤ day.day) × (day.day < 32)
day-low day = let long = days_in_month_bounds day.year day.month in (omega (arith, day.day_in), omega (arith, day.day_in, long))

pub days_left_low : (day : Date) → days_left day < 31
days_left_low day = let long = days_in_month_bounds day.year day.month in omega (arith, day.day_in, long)

has_any_day : (day : Date) → has_bit any_day day.day ≡ true
has_any_day day = from_1 (has_bit 0xffff_fffe) (λ k. true) 32 day.day refl (day-low day).0 (day-low day).1

has_any_left : (day : Date) → has_bit any_days_left (days_left day) ≡ true
has_any_left day = same (has_bit 0x7fff_ffff) (λ k. true) 31 (days_left day) refl (days_left_low day)

-- one of two masks that has each number leaves it to the other
by_day : (a b c : Bool) → a ≡ c → b ≡ true → (a && b) ≡ c
by_day true b c a_is b_true = b_true ∙ a_is
by_day false b c a_is b_true = a_is

by_left : (a b c : Bool) → a ≡ true → b ≡ c → (a && b) ≡ c
by_left true b c a_true b_is = b_is
by_left false b c a_true b_is = absurd (false≢true a_true)

pub month_days_of-one : (days left : ℕ) → (left == 1) ≡ false → (days == 0xffff_fffe) ≡ false → (days == 0xaaaa_aaaa) ≡ false
    → (days == 0x5555_5554) ≡ false → month_days_of days left ≡ month_day.One (trailing_zeros w32 days)
month_days_of-one days left last any odd even = rw (last, any, odd, even) refl

pub month_days_of-mask : (d : MonthDays) → AreMonthDays d → month_days_of (day_mask d) (days_left_mask d) ≡ d
month_days_of-mask month_day.Any h = refl
month_days_of-mask month_day.Last h = refl
month_days_of-mask month_day.Odd h = refl
month_days_of-mask month_day.Even h = refl
month_days_of-mask (month_day.One n) h =
    month_days_of-one (2 ^ n) 0x7fff_ffff refl
    (not_same (2 ^ n) 0xffff_fffe (no_power n 31 0xffff_fffe (omega arith) (omega arith)))
    (not_same (2 ^ n) 0xaaaa_aaaa (no_power n 31 0xaaaa_aaaa (omega arith) (omega arith)))
    (not_same (2 ^ n) 0x5555_5554 (no_power n 30 0x5555_5554 (omega arith) (omega arith)))
    ∙ ap month_day.One (lowest_bit n (omega (arith, h)))

pub month_days_of-has : (d : MonthDays) (day : Date) → AreMonthDays d → has_both (day_mask d) (days_left_mask d) day ≡ in_month_days d day
month_days_of-has month_day.Any day h = by_day _ _ true (has_any_day day) (has_any_left day)
month_days_of-has month_day.Last day h =
    by_left _ _ (days_left day == 0) (has_any_day day) (same (has_bit 1) (λ k. k == 0) 31 (days_left day) refl (days_left_low day))
month_days_of-has month_day.Odd day h =
    by_day _ _ (day.day % 2 == 1) (same (has_bit 0xaaaa_aaaa) (λ k. k % 2 == 1) 32 day.day refl (day-low day).1) (has_any_left day)
month_days_of-has month_day.Even day h =
    by_day _ _ (day.day % 2 == 0)
    (from_1 (has_bit 0x5555_5554) (λ k. k % 2 == 0) 32 day.day refl (day-low day).0 (day-low day).1) (has_any_left day)
month_days_of-has (month_day.One n) day h =
    by_day _ _ (day.day == n) (one_bit n day.day (omega (arith, h)) (day-low day).1) (has_any_left day)

pub day_mask-same : (a b : MonthDays) → day_mask a ≡ day_mask b → days_left_mask a ≡ days_left_mask b → a ≡ b
day_mask-same month_day.Any month_day.Any e f = refl
day_mask-same month_day.Last month_day.Last e f = refl
day_mask-same month_day.Odd month_day.Odd e f = refl
day_mask-same month_day.Even month_day.Even e f = refl
day_mask-same (month_day.One m) (month_day.One n) e f = ap month_day.One (same_power m n e)
day_mask-same (month_day.One m) month_day.Any e f = absurd (no_power m 31 0xffff_fffe (omega arith) (omega arith) e)
day_mask-same (month_day.One m) month_day.Last e f = absurd (no_power m 31 0xffff_fffe (omega arith) (omega arith) e)
day_mask-same (month_day.One m) month_day.Odd e f = absurd (no_power m 31 0xaaaa_aaaa (omega arith) (omega arith) e)
day_mask-same (month_day.One m) month_day.Even e f = absurd (no_power m 30 0x5555_5554 (omega arith) (omega arith) e)
day_mask-same month_day.Any (month_day.One n) e f = absurd (no_power n 31 0xffff_fffe (omega arith) (omega arith) (sym e))
day_mask-same month_day.Last (month_day.One n) e f = absurd (no_power n 31 0xffff_fffe (omega arith) (omega arith) (sym e))
day_mask-same month_day.Odd (month_day.One n) e f = absurd (no_power n 31 0xaaaa_aaaa (omega arith) (omega arith) (sym e))
day_mask-same month_day.Even (month_day.One n) e f = absurd (no_power n 30 0x5555_5554 (omega arith) (omega arith) (sym e))
day_mask-same month_day.Any month_day.Last e f = absurd (omega (arith, f))
day_mask-same month_day.Any month_day.Odd e f = absurd (omega (arith, e))
day_mask-same month_day.Any month_day.Even e f = absurd (omega (arith, e))
day_mask-same month_day.Last month_day.Any e f = absurd (omega (arith, f))
day_mask-same month_day.Last month_day.Odd e f = absurd (omega (arith, e))
day_mask-same month_day.Last month_day.Even e f = absurd (omega (arith, e))
day_mask-same month_day.Odd month_day.Any e f = absurd (omega (arith, e))
day_mask-same month_day.Odd month_day.Last e f = absurd (omega (arith, e))
day_mask-same month_day.Odd month_day.Even e f = absurd (omega (arith, e))
day_mask-same month_day.Even month_day.Any e f = absurd (omega (arith, e))
day_mask-same month_day.Even month_day.Last e f = absurd (omega (arith, e))
day_mask-same month_day.Even month_day.Odd e f = absurd (omega (arith, e))

-- ---- weeks

pub weeks_of-mask : (w : Option Week) → weeks_of (week_mask w) (weeks_left_mask w) ≡ w
weeks_of-mask None = refl
weeks_of-mask (Some First) = refl
weeks_of-mask (Some Second) = refl
weeks_of-mask (Some Third) = refl
weeks_of-mask (Some Fourth) = refl
weeks_of-mask (Some Fifth) = refl
weeks_of-mask (Some Last) = refl
weeks_of-mask (Some SecondLast) = refl
weeks_of-mask (Some ThirdLast) = refl
weeks_of-mask (Some FourthLast) = refl

-- a week by the day of the month, and one by the days left
in_first : (mask low high : ℕ) (day : Date) → all_below (λ i. agree (has_bit mask i) (is_between low high i)) 32 ≡ true
    → has_both mask any_days_left day ≡ is_between low high day.day
in_first mask low high day all =
    by_day _ _ (is_between low high day.day) (same (has_bit mask) (is_between low high) 32 day.day all (day-low day).1) (has_any_left day)

in_last : (mask low high : ℕ) (day : Date) → all_below (λ i. agree (has_bit mask i) (is_between low high i)) 31 ≡ true
    → has_both any_day mask day ≡ is_between low high (days_left day)
in_last mask low high day all =
    by_left _ _ (is_between low high (days_left day)) (has_any_day day)
    (same (has_bit mask) (is_between low high) 31 (days_left day) all (days_left_low day))

pub weeks_of-has : (w : Option Week) (day : Date) → has_both (week_mask w) (weeks_left_mask w) day ≡ in_weeks w day
weeks_of-has None day = by_day _ _ true (has_any_day day) (has_any_left day)
weeks_of-has (Some First) day = in_first 0xfe 1 7 day refl
weeks_of-has (Some Second) day = in_first 0x7f00 8 14 day refl
weeks_of-has (Some Third) day = in_first 0x3f_8000 15 21 day refl
weeks_of-has (Some Fourth) day = in_first 0x1fc0_0000 22 28 day refl
weeks_of-has (Some Fifth) day = in_first 0xe000_0000 29 31 day refl
weeks_of-has (Some Last) day = in_last 0x7f 0 6 day refl
weeks_of-has (Some SecondLast) day = in_last 0x3f80 7 13 day refl
weeks_of-has (Some ThirdLast) day = in_last 0x1f_c000 14 20 day refl
weeks_of-has (Some FourthLast) day = in_last 0xfe0_0000 21 27 day refl

pub week_mask-same : (a b : Option Week) → week_mask a ≡ week_mask b → weeks_left_mask a ≡ weeks_left_mask b → a ≡ b
week_mask-same a b e f = sym (weeks_of-mask a) ∙ (λ i. weeks_of (e i) (f i)) ∙ weeks_of-mask b

-- ---- weekdays

pub weekdays_of-mask : (w : Option Weekday) → weekdays_of (weekday_mask w) ≡ w
weekdays_of-mask None = refl
weekdays_of-mask (Some Monday) = refl
weekdays_of-mask (Some Tuesday) = refl
weekdays_of-mask (Some Wednesday) = refl
weekdays_of-mask (Some Thursday) = refl
weekdays_of-mask (Some Friday) = refl
weekdays_of-mask (Some Saturday) = refl
weekdays_of-mask (Some Sunday) = refl

monday_zero-low : (w : Weekday) → monday_zero w < 7
monday_zero-low Monday = omega arith
monday_zero-low Tuesday = omega arith
monday_zero-low Wednesday = omega arith
monday_zero-low Thursday = omega arith
monday_zero-low Friday = omega arith
monday_zero-low Saturday = omega arith
monday_zero-low Sunday = omega arith

pub weekdays_of-has : (w : Option Weekday) (day : Date) → weekday_of day < 7 → has_bit (weekday_mask w) (weekday_of day) ≡ in_weekdays w day
weekdays_of-has None day low = same (has_bit 0x7f) (λ k. true) 7 (weekday_of day) refl low
weekdays_of-has (Some name) day low =
    one_bit (monday_zero name) (weekday_of day) (let h = monday_zero-low name in omega (arith, h)) (omega (arith, low))

pub weekday_mask-same : (a b : Option Weekday) → weekday_mask a ≡ weekday_mask b → a ≡ b
weekday_mask-same a b e = sym (weekdays_of-mask a) ∙ ap weekdays_of e ∙ weekdays_of-mask b
