-- The date of a day number is the date that has it.
use Rattle.std.proofs.Common.{◌≡◌, ◌↔◌, ℕ, zero, suc, ◌+◌, ◌-◌, ◌≤◌, ◌<◌, Bool, true, false, inl, inr, refl, sym, ap, ◌∙◌, arith}
use Rattle.std.proofs.Common.{ℤ, pos, negsuc, ◌+ℤ◌, ◌-ℤ◌, ◌≤ℤ◌, ◌<ℤ◌, unsigned_abs, if◌then◌else◌, Option, Some, None, option_map, IsSome, IfSome}
use Rattle.std.proofs.lemmas.Bool.{false≢true}
use Rattle.std.proofs.lemmas.Bool.Decides.{leb_tells}
use Rattle.jiff_core.specs.Date.{IsYmd}
use Rattle.jiff_core.specs.Calendar.{days_of_months, days_from_civil}
use Rattle.jiff_core.specs.Date.{epoch_day, ordinal}
use Rattle.jiff_core.specs.declared.civil.date.Date.{Date}
use Rattle.jiff_core.proofs.CalendarLemmas.{days_of_months_more, days_of_months_mono}
use Rattle.jiff_core.proofs.DateLemmas.{epoch_day-ordinal}
use Rattle.jiff_core.proofs.SignedLemmas.{signed_arith}
use Rattle.jiff_tz.proofs.YearLemmas.{year_of_day-date}
use Rattle.dates.specs.Day.{IsDay, day_of}
use Rattle.dates.proofs.DayLemmas.{day_of-new}
use Rattle.local_times.specs.LocalTimes.{months_within, days_before, date_in_year, date_of_day, is_local_year, local_on}
use Rattle.local_times.specs.declared.local_clock.LocalTime.{LocalTime}

-- ---- whole months

-- the whole months are those whose days fit, up to the next one's
months_within_is : (y : ℤ) (n k days : ℕ) → k ≤ n → days_of_months y k ≤ days → days < days_of_months y (suc k) → months_within y n days ≡ k
unfolding months_within
months_within_is y zero k days h a b = omega arith
months_within_is y (suc n) k days h a b = elim (leb_tells (days_of_months y (suc n)) days) [
  | inl fits ↦ rw fits.0 (elim (leb_tells k n) [
    | inl small ↦
        let later = days_of_months_mono y (suc k) (suc n) (omega arith) in
        absurd (omega arith)
    | inr big ↦ omega arith
  ])
  | inr over ↦ rw over.0 (months_within_is y n k days (elim (leb_tells k n) [
    | inl small ↦ small.1
    | inr big ↦
        let same : k ≡ suc n = omega arith in
        let e = ap (days_of_months y) same in
        absurd (omega arith)
  ]) a b)
]

-- ---- a number that is not negative

pub nonneg_abs : (z : ℤ) → pos 0 ≤ℤ z → pos (unsigned_abs z) ≡ z
nonneg_abs (pos n) h = refl
nonneg_abs (negsuc n) h = absurd (omega (arith, signed_arith))

abs_difference : (a b : ℤ) (n : ℕ) → a +ℤ pos 1 ≡ b +ℤ pos n → 1 ≤ n → unsigned_abs (a -ℤ b) ≡ n - 1
abs_difference a b n e h =
    let is = nonneg_abs (a -ℤ b) (omega (arith, signed_arith)) in
    omega (arith, signed_arith)

-- ---- the date of a day number

days_before-date : (d : Date) → days_before d.year (epoch_day d) ≡ ordinal d - 1
days_before-date d =
    let first = d.day_in.0 in
    abs_difference (epoch_day d) (days_from_civil d.year 1 1) (ordinal d) (epoch_day-ordinal d) (omega arith)

date_in_year-date : (d : Date) → date_in_year d.year (ordinal d - 1) ≡ day_of (unsigned_abs d.year) d.month d.day
date_in_year-date d =
    let y = d.year in
    let m : ℕ = d.month in
    let first_month = d.month_in.0 in
    let last_month = d.month_in.1 in
    let first_day = d.day_in.0 in
    let last_day = d.day_in.1 in
    let before : ℕ = days_of_months y (m - 1) in
    let whole = days_of_months_more y m first_month in
    let next : suc (m - 1) ≡ m = omega arith in
    let enough : ordinal d - 1 < days_of_months y (suc (m - 1)) = rw next (omega arith) in
    let months = months_within_is y 11 (m - 1) (ordinal d - 1) (omega arith) (omega arith) enough in
    let month : m - 1 + 1 ≡ m = omega arith in
    let day : ordinal d - 1 - before + 1 ≡ d.day = omega arith in
    ap (λ k. day_of (unsigned_abs y) (k + 1) (ordinal d - 1 - days_of_months y k + 1)) months
    ∙ ap (λ k. day_of (unsigned_abs y) k (ordinal d - 1 - before + 1)) month
    ∙ ap (day_of (unsigned_abs y) m) day

pub date_of_day-date : (d : Date) → date_of_day (epoch_day d) ≡ day_of (unsigned_abs d.year) d.month d.day
date_of_day-date d =
    ap (λ y. date_in_year y (days_before y (epoch_day d))) (year_of_day-date d)
    ∙ ap (date_in_year d.year) (days_before-date d)
    ∙ date_in_year-date d

-- ---- the local time on a date

pub local_below : (d : Date) (time : ℕ) → d.year <ℤ pos 1970 → local_on (epoch_day d) time ≡ None
unfolding local_on
local_below d time h =
    let not_local : is_local_year d.year ≡ false = grind (arith, signed_arith) in
    rw (year_of_day-date d, not_local) refl

local_if_year : (y : ℤ) (m d : ℕ) → IsDay y m d → pos 1970 ≤ℤ y → is_local_year y ≡ true
local_if_year y m d h from = grind (arith, signed_arith)

-- what `Day::new` answers for the parts of a date, with a time
pub local_on-new : (d : Date) (time : ℕ) (r : Option Date) → pos 1970 ≤ℤ d.year
    → (IsSome r ↔ IsDay d.year d.month d.day) → IfSome r (IsYmd d.year (pos d.month) (pos d.day))
    → local_on (epoch_day d) time ≡ option_map (λ date. record { day = date; time = time }) r
unfolding local_on
local_on-new d time r from exists value =
    ap (λ y. if is_local_year y then option_map with_time (date_of_day (epoch_day d)) else None) (year_of_day-date d)
    ∙ ap (λ o. if is_local_year d.year then option_map with_time o else None) (date_of_day-date d ∙ sym new)
    ∙ by (is_local_year d.year) refl r exists
  where
    with_time : Date → LocalTime
    with_time date = record { day = date; time = time }

    new : r ≡ day_of (unsigned_abs d.year) d.month d.day
    new = let is = nonneg_abs d.year (omega (arith, signed_arith)) in
        day_of-new (unsigned_abs d.year) d.month d.day r (rw is exists) (rw is value)

    by : (b : Bool) → is_local_year d.year ≡ b → (o : Option Date) → (IsSome o ↔ IsDay d.year d.month d.day)
        → (if b then option_map with_time o else None) ≡ option_map with_time o
    by true e o h = refl
    by false e None h = refl
    by false e (Some x) h = absurd (false≢true (sym e ∙ local_if_year d.year d.month d.day (h.0 refl) from))
