-- The days of a range are those that lie in it.
use Rattle.std.proofs.Common.{◌≡◌, ◌∙◌, ℕ, zero, suc, ◌+◌, ◌-◌, ◌<◌, ◌≤◌, ℤ, pos, negsuc, ◌≤ℤ◌, unsigned_abs, Bool, true, false, cond, List, [], ◌∷◌, Option, Some, None, refl, sym, ap, subst, arith}
use Rattle.std.specs.List.{Contains, cons_option, filter, filter_map, flat_map, range_with_len}
use Rattle.std.proofs.lemmas.Bool.{false≢true}
use Rattle.std.proofs.lemmas.List.Elements.{All-contains, Contains-append_left, Contains-append_right, filter_passes}
use Rattle.std.proofs.lemmas.List.FromFn.{get_or-range_with_len, length-range_with_len}
use Rattle.jiff_core.specs.declared.civil.date.Date.{Date}
use Rattle.jiff_core.proofs.CalendarLemmas.{days_in_month_bounds}
use Rattle.jiff_core.proofs.SignedLemmas.{signed_arith}
use Rattle.dates.specs.Day.{IsDay, IsOfYears, day_of}
use Rattle.dates.specs.Range.{in_range}
use Rattle.dates.proofs.DayLemmas.{day_of-new}
use Rattle.cli_days.specs.RangeDays.{RangeHasItsDays, all_days, days_in, month_days, year_days}

-- ---- elements

among-range : (from n x : ℕ) → from ≤ x → x < from + n → Contains (range_with_len from n) x
among-range from n x least most =
    let long = length-range_with_len from n in
    let at : from + (x - from) ≡ x = omega (arith, least) in
    (x - from, omega (arith, long, least, most), get_or-range_with_len from n (x - from) x (omega (arith, least, most)) ∙ at)

module _ {A : Type 0} where
  among-flat_map : (g : ℕ → List A) (xs : List ℕ) (x : ℕ) (a : A) → Contains xs x → Contains (g x) a → Contains (flat_map g xs) a
  among-flat_map g [] x a (k, below, is) has = absurd (omega (arith, below))
  among-flat_map g (y ∷ ys) x a (zero, below, is) has =
      Contains-append_left (g y) (flat_map g ys) a (subst (λ z. Contains (g z) a) (sym is) has)
  among-flat_map g (y ∷ ys) x a (suc k, below, is) has =
      Contains-append_right (g y) (flat_map g ys) a (among-flat_map g ys x a (k, omega (arith, below), is) has)

  behind-option : (found : Option A) (xs : List A) (a : A) → Contains xs a → Contains (cons_option found xs) a
  behind-option None xs a has = has
  behind-option (Some b) xs a (k, below, is) = (suc k, omega (arith, below), is)

  among-filter_map : (f : ℕ → Option A) (xs : List ℕ) (x : ℕ) (a : A) → Contains xs x → f x ≡ Some a → Contains (filter_map f xs) a
  among-filter_map f [] x a (k, below, is) found = absurd (omega (arith, below))
  among-filter_map f (y ∷ ys) x a (zero, below, is) found =
      subst (λ o. Contains (cons_option o (filter_map f ys)) a) (sym (ap f is ∙ found)) (zero, omega arith, refl)
  among-filter_map f (y ∷ ys) x a (suc k, below, is) found =
      behind-option (f y) (filter_map f ys) a (among-filter_map f ys x a (k, omega (arith, below), is) found)

  kept : (passes : Bool) (y : A) (r : List A) (a : A) → passes ≡ true → y ≡ a → Contains (cond passes (y ∷ r) r) a
  kept true y r a passes is = (zero, omega arith, is)
  kept false y r a passes is = absurd (false≢true passes)

  behind-kept : (passes : Bool) (y : A) (r : List A) (a : A) → Contains r a → Contains (cond passes (y ∷ r) r) a
  behind-kept true y r a (k, below, is) = (suc k, omega (arith, below), is)
  behind-kept false y r a has = has

  among-filter : (p : A → Bool) (xs : List A) (a : A) → Contains xs a → p a ≡ true → Contains (filter p xs) a
  among-filter p [] a (k, below, is) passes = absurd (omega (arith, below))
  among-filter p (y ∷ ys) a (zero, below, is) passes = kept (p y) y (filter p ys) a (ap p is ∙ passes) is
  among-filter p (y ∷ ys) a (suc k, below, is) passes =
      behind-kept (p y) y (filter p ys) a (among-filter p ys a (k, omega (arith, below), is) passes)

-- ---- days

all-here : (year : ℕ) (day : Date) → 1900 ≤ year → year < 2155 → Contains (year_days year) day → Contains all_days day
unfolding all_days
all-here year day least most has =
    among-flat_map year_days (range_with_len 1900 255) year day (among-range 1900 255 year least most) has

year-here : (year month : ℕ) (day : Date) → 1 ≤ month → month < 13 → Contains (month_days year month) day → Contains (year_days year) day
unfolding year_days
year-here year month day least most has =
    among-flat_map (month_days year) (range_with_len 1 12) month day (among-range 1 12 month least most) has

month-here : (year month number : ℕ) (day : Date) → 1 ≤ number → number < 32 → day_of year month number ≡ Some day
    → Contains (month_days year month) day
unfolding month_days
month-here year month number day least most found =
    among-filter_map (day_of year month) (range_with_len 1 31) number day (among-range 1 31 number least most) found

nonneg_abs : (z : ℤ) → pos 1900 ≤ℤ z → pos (unsigned_abs z) ≡ z
nonneg_abs (pos n) h = refl
nonneg_abs (negsuc n) h = absurd (omega (arith, signed_arith))

day-found : (day : Date) → IsOfYears day → day_of (unsigned_abs day.year) day.month day.day ≡ Some day
day-found day of_years =
    let year_is = nonneg_abs day.year of_years.0 in
    let first_month = day.month_in.0 in
    let last_month = day.month_in.1 in
    let first_day = day.day_in.0 in
    let last_day = day.day_in.1 in
    let here : IsDay day.year day.month day.day = (
      of_years,
      (
        day.year_in,
        (omega (arith, signed_arith), omega (arith, signed_arith)),
        (omega (arith, signed_arith), omega (arith, signed_arith)),
      ),
    ) in
    sym (day_of-new (unsigned_abs day.year) day.month day.day (Some day)
    (λ some. subst (λ z. IsDay z day.month day.day) (sym year_is) here, λ is. refl) (sym year_is, refl, refl))

day-here : (day : Date) → IsOfYears day → Contains all_days day
day-here day of_years =
    let year_is = nonneg_abs day.year of_years.0 in
    let first_year = of_years.0 in
    let last_year = of_years.1 in
    let first_month = day.month_in.0 in
    let last_month = day.month_in.1 in
    let first_day = day.day_in.0 in
    let last_day = day.day_in.1 in
    let most = days_in_month_bounds day.year day.month in
    let most_days = most.0 in
    all-here (unsigned_abs day.year) day (omega (arith, signed_arith)) (omega (arith, signed_arith))
    (year-here (unsigned_abs day.year) day.month day first_month (omega arith)
    (month-here (unsigned_abs day.year) day.month day.day day first_day (omega arith) (day-found day of_years)))

pub range-has : RangeHasItsDays
range-has range day of_years = (
  (λ has. All-contains (λ d. in_range range d ≡ true) (days_in range) day (filter_passes (in_range range) all_days) has),
  (λ passes. among-filter (in_range range) all_days day (day-here day of_years) passes),
)
