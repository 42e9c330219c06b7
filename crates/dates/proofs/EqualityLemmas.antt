-- `==` on entries says whether they are the same.
use Rattle.std.proofs.Common.{◌≡◌, ◌↔◌, ℕ, nat_eq, Bool, true, Option, Some, None, refl, ap, subst}
use Rattle.std.specs.Cmp.{unsigned_Decides, first_so, second_so}
use Rattle.std.specs.Option.{option_eq}
use Rattle.std.specs.Ordering.{int_eq}
use Rattle.std.proofs.lemmas.Bool.{false≢true}
use Rattle.std.proofs.lemmas.Bool.Decides.{Decides-int_eq}
use Rattle.jiff_core.specs.declared.civil.date.Date.{Date}
use Rattle.jiff_core.specs.declared.civil.weekday.Weekday.{Weekday}
use Rattle.jiff_core.specs.Date.{epoch_day}
use Rattle.dates.specs.contracts.year.YearPartialEq.TheImpl as year_eq
use Rattle.dates.specs.Masks.{day_mask, days_left_mask, month_mask, week_mask, weekday_mask, weeks_left_mask}
use Rattle.dates.proofs.DayLemmas.{same_date}
use Rattle.dates.proofs.MaskLemmas.{day_mask-same, month_mask-same, week_mask-same, weekday_mask-same}
use Rattle.dates.specs.declared.months.Months.{Months}
use Rattle.dates.specs.contracts.months.MonthMaskPartialEq.TheImpl as months_eq
use Rattle.dates.specs.declared.month_days.MonthDays.{MonthDays}
use Rattle.dates.specs.contracts.month_days.DayMaskPartialEq.TheImpl as month_days_eq
use Rattle.dates.specs.contracts.weekday.WeekdayMaskPartialEq.TheImpl as weekdays_eq
use Rattle.dates.specs.declared.week.Week.{Week}
use Rattle.dates.specs.contracts.week.WeekMaskPartialEq.TheImpl as weeks_eq
use Rattle.dates.specs.declared.pattern.Pattern.{Pattern}
use Rattle.dates.specs.contracts.pattern.PatternPartialEq.TheImpl as pattern_eq
use Rattle.dates.specs.declared.range.Range.{Range}
use Rattle.dates.specs.contracts.range.RangePartialEq.TheImpl as range_eq
use Rattle.dates.specs.declared.week_n_day.WeekNDay.{WeekNDay}
use Rattle.dates.specs.contracts.week_n_day.WeekNDayPartialEq.TheImpl as week_n_day_eq
use Rattle.dates.specs.declared.entry.Entry.{Entry}
use Rattle.dates.specs.declared.entry.Entry.TheVariants as entry
use Rattle.dates.specs.contracts.entry.EntryPartialEq.TheImpl as entry_eq
use Rattle.dates.specs.contracts.entry.EntryEq.TheImpl.Laws as entry_laws

abbrev years_eq : Option ℕ → Option ℕ → Bool
years_eq a b = option_eq year_eq.ghosts.eq a b

same_years : (a b : Option ℕ) → years_eq a b ≡ true → a ≡ b
same_years None None e = refl
same_years (Some m) (Some n) e = ap Some ((unsigned_Decides m n).0 e)
same_years _ _ e = absurd (false≢true e)

same_months : (a b : Months) → months_eq.ghosts.eq a b ≡ true → a ≡ b
same_months a b e = month_mask-same a b ((unsigned_Decides (month_mask a) (month_mask b)).0 e)

same_month_days : (a b : MonthDays) → month_days_eq.ghosts.eq a b ≡ true → a ≡ b
same_month_days a b e =
    day_mask-same a b
    ((unsigned_Decides (day_mask a) (day_mask b)).0 (first_so (nat_eq (day_mask a) (day_mask b)) _ e))
    ((unsigned_Decides (days_left_mask a) (days_left_mask b)).0 (second_so (nat_eq (day_mask a) (day_mask b)) _ e))

same_weekdays : (a b : Option Weekday) → weekdays_eq.ghosts.eq a b ≡ true → a ≡ b
same_weekdays a b e = weekday_mask-same a b ((unsigned_Decides (weekday_mask a) (weekday_mask b)).0 e)

same_weeks : (a b : Option Week) → weeks_eq.ghosts.eq a b ≡ true → a ≡ b
same_weeks a b e =
    week_mask-same a b
    ((unsigned_Decides (week_mask a) (week_mask b)).0 (first_so (nat_eq (week_mask a) (week_mask b)) _ e))
    ((unsigned_Decides (weeks_left_mask a) (weeks_left_mask b)).0 (second_so (nat_eq (week_mask a) (week_mask b)) _ e))

same_pattern : (a b : Pattern) → pattern_eq.ghosts.eq a b ≡ true → a ≡ b
same_pattern a b e =
    let years = same_years a.year b.year (first_so (years_eq a.year b.year) _ e) in
    let later = second_so (years_eq a.year b.year) _ e in
    let months = same_months a.months b.months (first_so (months_eq.ghosts.eq a.months b.months) _ later) in
    let rest = second_so (months_eq.ghosts.eq a.months b.months) _ later in
    let days = same_month_days a.days b.days (first_so (month_days_eq.ghosts.eq a.days b.days) _ rest) in
    let weekdays = same_weekdays a.weekday b.weekday (second_so (month_days_eq.ghosts.eq a.days b.days) _ rest) in
    λ i. record { year = years i; months = months i; days = days i; weekday = weekdays i }

abbrev day_eq : Date → Date → Bool
day_eq a b = int_eq (epoch_day a) (epoch_day b)

same_end : (a b : Option Date) → option_eq day_eq a b ≡ true → a ≡ b
same_end None None e = refl
same_end (Some a) (Some b) e = ap Some (same_date a b ((Decides-int_eq (epoch_day a) (epoch_day b)).0 e))
same_end None (Some b) e = absurd (false≢true e)
same_end (Some a) None e = absurd (false≢true e)

same_range : (a b : Range) → range_eq.ghosts.eq a b ≡ true → a ≡ b
same_range a b e =
    let start = same_end a.start b.start (first_so (option_eq day_eq a.start b.start) _ e) in
    let end = same_end a.end b.end (second_so (option_eq day_eq a.start b.start) _ e) in
    λ i. record { start = start i; end = end i }

same_week_n_day : (a b : WeekNDay) → week_n_day_eq.ghosts.eq a b ≡ true → a ≡ b
same_week_n_day a b e =
    let months = same_months a.months b.months (first_so (months_eq.ghosts.eq a.months b.months) _ e) in
    let later = second_so (months_eq.ghosts.eq a.months b.months) _ e in
    let weeks = same_weeks a.week b.week (first_so (weeks_eq.ghosts.eq a.week b.week) _ later) in
    let weekdays = same_weekdays a.weekday b.weekday (second_so (weeks_eq.ghosts.eq a.week b.week) _ later) in
    λ i. record { months = months i; week = weeks i; weekday = weekdays i }

same_entry : (a b : Entry) → entry_eq.ghosts.eq a b ≡ true → a ≡ b
same_entry (entry.Pattern p) (entry.Pattern q) e = ap entry.Pattern (same_pattern p q e)
same_entry (entry.Range p) (entry.Range q) e = ap entry.Range (same_range p q e)
same_entry (entry.WeekNDay p) (entry.WeekNDay q) e = ap entry.WeekNDay (same_week_n_day p q e)
same_entry _ _ e = absurd (false≢true e)

pub eq-same : (a b : Entry) → (entry_eq.ghosts.eq a b ≡ true) ↔ (a ≡ b)
eq-same a b =
    (same_entry a b, λ same. subst (λ (x : Entry). entry_eq.ghosts.eq a x ≡ true) same (entry_laws.laws-law.refl a))
