-- The days that are tried are all on which an entry may hold.
use Rattle.std.proofs.Common.{◌≡◌, ℕ, ◌<◌, ◌≤◌, Bool, true, false, ◌&&◌, ℤ, pos, negsuc, ◌≤ℤ◌, unsigned_abs, refl, sym, ap, ◌∙◌, arith, Option, Some, None, int_le, eqb-true}
use Rattle.std.specs.Option.{option_map_or}
use Rattle.std.proofs.lemmas.Bool.{and_from, and_parts, false≢true, le-leb}
use Rattle.std.proofs.lemmas.Bool.Decides.{Decides-int_eq}
use Rattle.jiff_core.specs.Calendar.{days_in_month}
use Rattle.jiff_core.proofs.CalendarLemmas.{days_in_month_bounds}
use Rattle.jiff_core.specs.declared.civil.date.Date.{Date}
use Rattle.jiff_core.proofs.SignedLemmas.{signed_arith}
use Rattle.dates.specs.Day.{IsOfYears, day_of, day_with, is_day, is_day-month, is_day-day, is_between-true}
use Rattle.dates.specs.Entry.{holds_on}
use Rattle.dates.specs.MonthDays.{in_month_days}
use Rattle.dates.specs.Months.{in_months}
use Rattle.dates.specs.Range.{IsRange, IsRangeEnd, is_from, is_up_to}
use Rattle.dates.specs.Year.{in_years}
use Rattle.dates.specs.declared.month_days.MonthDays.{MonthDays}
use Rattle.dates.specs.declared.month_days.MonthDays.TheVariants as days
use Rattle.dates.specs.declared.months.Months.{Months}
use Rattle.dates.specs.declared.months.Months.TheVariants as months
use Rattle.dates.specs.declared.pattern.Pattern.{Pattern}
use Rattle.dates.specs.declared.range.Range.{Range}
use Rattle.dates.specs.declared.entry.Entry.TheVariants as entry
use Rattle.jiff_core.specs.Date.{epoch_day}
use Rattle.dates.specs.declared.entry.Entry.{Entry}
use Rattle.dates.proofs.DayLemmas.{IsDay-is_day, day_of-new, day_of-none, day_of-some}
use Rattle.building_hints.specs.EntryDays.{holds_at, holds_in_days, holds_in_months, holds_in_years, holds_on_some_day, days_tried, is_range_of_days, months_tried, starts_by_end, years_tried}
use Rattle.building_hints.proofs.SomeBetweenLemmas.{passes-some, same_test, some-passes}

-- the day with these parts, on which the entry holds
pub held_day : (entry : Entry) (y m d : ℕ) → holds_at entry y m d ≡ true → (ok : is_day y m d ≡ true) × (holds_on entry (day_with y m d ok) ≡ true)
held_day entry y m d e = by_test (is_day y m d) refl
  where
    by_test : (test : Bool) → is_day y m d ≡ test → (ok : is_day y m d ≡ true) × (holds_on entry (day_with y m d ok) ≡ true)
    by_test true is =
        let some = day_of-some y m d is in
        (some.0, sym (ap (λ o. option_map_or (holds_on entry) o false) some.1) ∙ e)
    by_test false is = absurd (false≢true (sym (ap (λ o. option_map_or (holds_on entry) o false) (day_of-none y m d is)) ∙ e))

-- the parts of a day of the years
abs_is : (z : ℤ) → pos 1900 ≤ℤ z → pos (unsigned_abs z) ≡ z
abs_is (pos n) h = refl
abs_is (negsuc n) h = absurd (omega (arith, signed_arith))

is_day-parts : (day : Date) → IsOfYears day → is_day (unsigned_abs day.year) day.month day.day ≡ true
is_day-parts day h =
    let year = abs_is day.year h.0 in
    let from : 1900 ≤ unsigned_abs day.year = omega (arith, signed_arith) in
    let to : unsigned_abs day.year ≤ 2154 = omega (arith, signed_arith) in
    let length : days_in_month (pos (unsigned_abs day.year)) day.month ≡ days_in_month day.year day.month = ap (λ y. days_in_month y day.month) year in
    and_from _ _ (and_from _ _ (le-leb _ _ from) (le-leb _ _ to))
    (and_from _ _ (and_from _ _ (le-leb _ _ day.month_in.0) (le-leb _ _ day.month_in.1))
    (and_from _ _ (le-leb _ _ day.day_in.0) (le-leb _ _ (rw length day.day_in.1))))

day_of-parts : (day : Date) → IsOfYears day → Some day ≡ day_of (unsigned_abs day.year) day.month day.day
day_of-parts day h =
    let there = IsDay-is_day _ _ _ (is_day-parts day h) in
    day_of-new (unsigned_abs day.year) day.month day.day (Some day) (λ _. there, λ _. refl) (sym (abs_is day.year h.0), refl, refl)

-- ---- the parts of a day on which an entry holds

abbrev pub In : ℕ × ℕ → ℕ → Type 0
In bounds n = (bounds.0 ≤ n) × (n < bounds.1)

record Held (entry : Entry) (years months days : ℕ × ℕ) : Type 0 where
  pub year : ℕ
  pub month : ℕ
  pub day : ℕ
  pub of_years : In years year
  pub of_months : In months month
  pub of_days : In days day
  pub holds : holds_at entry year month day ≡ true

held-from : (entry : Entry) (years months days : ℕ × ℕ) → holds_in_years entry years months days ≡ true → Held entry years months days
held-from entry years months days e =
    let year = passes-some years.0 years.1 (holds_in_months entry months days) e in
    let month = passes-some months.0 months.1 (holds_in_days entry days year.0) year.3 in
    let day = passes-some days.0 days.1 (holds_at entry year.0 month.0) month.3 in
    record {
      year = year.0;
      month = month.0;
      day = day.0;
      of_years = (year.1, year.2);
      of_months = (month.1, month.2);
      of_days = (day.1, day.2);
      holds = day.3;
    }

held-to : (entry : Entry) (years months days : ℕ × ℕ) → Held entry years months days → holds_in_years entry years months days ≡ true
held-to entry years months days it =
    some-passes years.0 years.1 (holds_in_months entry months days) it.year it.of_years.0 it.of_years.1
    (some-passes months.0 months.1 (holds_in_days entry days it.year) it.month it.of_months.0 it.of_months.1
    (some-passes days.0 days.1 (holds_at entry it.year it.month) it.day it.of_days.0 it.of_days.1 it.holds))

-- ---- the law

-- the parts that a day has are all tried
pub in_all : (y m d : ℕ) → is_day y m d ≡ true → In (1900, 2155) y × In (1, 13) m × In (1, 32) d
in_all y m d ok =
    let year = is_between-true 1900 2154 y (and_parts _ _ ok).0 in
    let month = is_day-month y m d ok in
    let day = is_day-day y m d ok in
    let most = days_in_month_bounds (pos y) m in (
      (year.0, omega (arith, year.1)),
      (month.0, omega (arith, month.1)),
      (day.0, omega (arith, day.1, most.0)),
    )

-- a day of the years on which an entry holds
pub some_day-from : (entry : Entry) (day : Date) → IsOfYears day → holds_on entry day ≡ true → holds_on_some_day entry ≡ true
unfolding holds_on_some_day
some_day-from entry day h e =
    let y = unsigned_abs day.year in
    let all = in_all y day.month day.day (is_day-parts day h) in
    held-to entry (1900, 2155) (1, 13) (1, 32) (record {
      year = y;
      month = day.month;
      day = day.day;
      of_years = all.0;
      of_months = all.1;
      of_days = all.2;
      holds = ap (λ o. option_map_or (holds_on entry) o false) (sym (day_of-parts day h)) ∙ e;
    })

years_of : (y m d : ℕ) (ok : is_day y m d ≡ true) → IsOfYears (day_with y m d ok)
years_of y m d ok =
    let year = is_between-true 1900 2154 y (and_parts _ _ ok).0 in
    (omega (arith, signed_arith, year), omega (arith, signed_arith, year))

-- and the day is found
pub some_day-to : (entry : Entry) → holds_on_some_day entry ≡ true → (day : Date) × IsOfYears day × (holds_on entry day ≡ true)
unfolding holds_on_some_day
some_day-to entry e =
    let it = held-from entry (1900, 2155) (1, 13) (1, 32) e in
    let at = held_day entry it.year it.month it.day it.holds in
    (day_with it.year it.month it.day at.0, years_of it.year it.month it.day at.0, at.1)

-- ---- what is tried is all that may hold

-- where each part that holds is among those that are tried, nothing is left out
pub all_tried : (entry : Entry) (years months days : ℕ × ℕ)
    → ((y m d : ℕ) (ok : is_day y m d ≡ true) → holds_on entry (day_with y m d ok) ≡ true → In years y × In months m × In days d)
    → holds_in_years entry years months days ≡ holds_on_some_day entry
unfolding holds_on_some_day
all_tried entry years months days tried = same_test _ _ narrow wide
  where
    narrow : holds_in_years entry years months days ≡ true → holds_in_years entry (1900, 2155) (1, 13) (1, 32) ≡ true
    narrow e =
        let it = held-from entry years months days e in
        let at = held_day entry it.year it.month it.day it.holds in
        let all = in_all it.year it.month it.day at.0 in
        held-to entry (1900, 2155) (1, 13) (1, 32) (record {
          year = it.year;
          month = it.month;
          day = it.day;
          of_years = all.0;
          of_months = all.1;
          of_days = all.2;
          holds = it.holds;
        })

    wide : holds_in_years entry (1900, 2155) (1, 13) (1, 32) ≡ true → holds_in_years entry years months days ≡ true
    wide e =
        let it = held-from entry (1900, 2155) (1, 13) (1, 32) e in
        let at = held_day entry it.year it.month it.day it.holds in
        let among = tried it.year it.month it.day at.0 at.1 in
        held-to entry years months days (record {
          year = it.year;
          month = it.month;
          day = it.day;
          of_years = among.0;
          of_months = among.1;
          of_days = among.2;
          holds = it.holds;
        })

-- the days of one year are some of all
pub in_one_year : (entry : Entry) (year : ℕ) → 1900 ≤ year → year < 2155 → holds_in_months entry (1, 13) (1, 32) year ≡ true
    → holds_on_some_day entry ≡ true
unfolding holds_on_some_day
in_one_year entry year from to e = some-passes 1900 2155 (holds_in_months entry (1, 13) (1, 32)) year from to e

-- ---- by the fields of a pattern

in_years_tried : (years : Option ℕ) (y m d : ℕ) (ok : is_day y m d ≡ true) → in_years years (day_with y m d ok) ≡ true → In (years_tried years) y
in_years_tried None y m d ok e = (in_all y m d ok).0
in_years_tried (Some year) y m d ok e =
    let same : y ≡ year = ap unsigned_abs ((Decides-int_eq (pos y) (pos year)).0 e) in
    (omega (arith, same), omega (arith, same))

in_months_tried : (months : Months) (y m d : ℕ) (ok : is_day y m d ≡ true) → in_months months (day_with y m d ok) ≡ true → In (months_tried months) m
in_months_tried months.Any y m d ok e = (in_all y m d ok).1
in_months_tried months.Odd y m d ok e = (in_all y m d ok).1
in_months_tried months.Even y m d ok e = (in_all y m d ok).1
in_months_tried (months.One month) y m d ok e = let same = eqb-true m month e in (omega (arith, same), omega (arith, same))

in_days_tried : (days : MonthDays) (y m d : ℕ) (ok : is_day y m d ≡ true) → in_month_days days (day_with y m d ok) ≡ true → In (days_tried days) d
in_days_tried days.Any y m d ok e = (in_all y m d ok).2
in_days_tried days.Last y m d ok e = (in_all y m d ok).2
in_days_tried days.Odd y m d ok e = (in_all y m d ok).2
in_days_tried days.Even y m d ok e = (in_all y m d ok).2
in_days_tried (days.One day) y m d ok e = let same = eqb-true d day e in (omega (arith, same), omega (arith, same))

pub pattern_tried : (pattern : Pattern)
    → holds_in_years (entry.Pattern pattern) (years_tried pattern.year) (months_tried pattern.months) (days_tried pattern.days)
    ≡ holds_on_some_day (entry.Pattern pattern)
unfolding holds_on
pattern_tried pattern = all_tried (entry.Pattern pattern) _ _ _ (λ y m d ok h.
    let but_weekday = (and_parts _ _ h).0 in
    let but_days = (and_parts _ _ but_weekday).0 in (
      in_years_tried pattern.year y m d ok (and_parts _ _ but_days).0,
      in_months_tried pattern.months y m d ok (and_parts _ _ but_days).1,
      in_days_tried pattern.days y m d ok (and_parts _ _ but_weekday).1,
    ))

-- ---- by the ends of a range

int_le_self : (z : ℤ) → int_le z z ≡ true
int_le_self z = grind (arith, signed_arith)

int_le_onward : (x y z : ℤ) → int_le x y ≡ true → int_le y z ≡ true → int_le x z ≡ true
int_le_onward x y z a b = grind (arith, signed_arith)

day_between : (start end : Option Date) → IsRangeEnd start → IsRangeEnd end → starts_by_end start end ≡ true
    → (day : Date) × IsOfYears day × ((is_from start day && is_up_to end day) ≡ true)
day_between None None s e h = (day_with 1900 1 1 refl, years_of 1900 1 1 refl, refl)
day_between None (Some end) s e h = (end, e, int_le_self (epoch_day end))
day_between (Some start) None s e h = (start, s, and_from _ _ (int_le_self (epoch_day start)) refl)
day_between (Some start) (Some end) s e h = (start, s, and_from _ _ (int_le_self (epoch_day start)) h)

ends_in_turn : (start end : Option Date) (day : Date) → (is_from start day && is_up_to end day) ≡ true → starts_by_end start end ≡ true
ends_in_turn None end day h = refl
ends_in_turn (Some start) None day h = refl
ends_in_turn (Some start) (Some end) day h =
    let both = and_parts _ _ h in
    int_le_onward (epoch_day start) (epoch_day day) (epoch_day end) both.0 both.1

pub range_tried : (range : Range) → IsRange range → is_range_of_days range ≡ holds_on_some_day (entry.Range range)
unfolding holds_on
range_tried range ends = same_test _ _
    (λ h. let it = day_between range.start range.end ends.0 ends.1 h in some_day-from (entry.Range range) it.0 it.1 it.2)
    (λ h. let it = some_day-to (entry.Range range) h in ends_in_turn range.start range.end it.0 it.2)
