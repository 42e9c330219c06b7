-- The texts of entries and names are text.
use Rattle.std.proofs.Common.{◌≡◌, ℕ, ◌+◌, ◌/◌, ◌%◌, ◌<◌, Bool, true, false, List, ◌++◌, Option, Some, None, Result, Ok, Err, codes, ltb, pos, unsigned_abs, arith, ap, refl, ◌∙◌}
use Rattle.std.specs.List.{list_all}
use Rattle.std.specs.Str.{IsUtf8}
use Rattle.std.proofs.lemmas.Bool.{and_from, lt-ltb, ltb-true, false_from_ne_true}
use Rattle.std.proofs.lemmas.List.Elements.{All-weaker}
use Rattle.std.proofs.lemmas.List.Folds.{list_all-append}
use Rattle.std.proofs.lemmas.List.Sums.{AllPass-from_list_all}
use Rattle.std.proofs.lemmas.Str.{IsUtf8-from_ascii}
use Rattle.std.proofs.lemmas.Str.Ascii.{IsAscii-from_all}
use Rattle.jiff_core.specs.declared.civil.date.Date.{Date}
use Rattle.jiff_core.specs.declared.civil.weekday.Weekday.{Weekday}
use Rattle.jiff_core.specs.declared.civil.weekday.Weekday.TheVariants as weekday
use Rattle.dates.specs.declared.entry.Entry.{Entry}
use Rattle.dates.specs.declared.entry.Entry.TheVariants.{Pattern, Range, WeekNDay}
use Rattle.dates.specs.declared.entry_fault.EntryFault.{EntryFault}
use Rattle.dates.specs.declared.month_days.MonthDays.{MonthDays}
use Rattle.dates.specs.declared.month_days.MonthDays.TheVariants as month_day
use Rattle.dates.specs.declared.months.Months.{Months}
use Rattle.dates.specs.declared.months.Months.TheVariants as month
use Rattle.dates.specs.declared.week.Week.{Week}
use Rattle.dates.specs.declared.week.Week.TheVariants as week
use Rattle.dates.specs.DateFields.{date_fields_text}
use Rattle.dates.specs.Day.{IsOfYears, day_text}
use Rattle.dates.specs.Entry.{IsEntry, reading, spelling}
use Rattle.dates.specs.MonthDays.{AreMonthDays, month_days_text}
use Rattle.dates.specs.Months.{AreMonths, months_text}
use Rattle.dates.specs.Notation.{two_digit_text, four_digit_text}
use Rattle.dates.specs.Pattern.{weekday_suffix}
use Rattle.dates.specs.Range.{IsRangeEnd, range_end_text}
use Rattle.dates.specs.Week.{weeks_text}
use Rattle.dates.specs.Weekday.{weekday_text, weekdays_text}
use Rattle.dates.specs.Year.{AreYears, years_text}
use Rattle.jiff_core.proofs.CalendarLemmas.{days_in_month_bounds}
use Rattle.jiff_core.proofs.SignedLemmas.{signed_arith}
use Rattle.dates.proofs.SpelledReads.{year_number}
use Rattle.dates.proofs.ReadSpells.{reading-ok}
use Rattle.points.specs.Name.{is_name}
use Rattle.points.proofs.NameLemmas.{name_is_utf8}
use Rattle.store_sql_rows.specs.Cells.{entry_of}

-- each byte is an ASCII character
abbrev is_plain : List ℕ → Bool
is_plain = list_all (λ byte. ltb byte 128)

plain-join : (a b : List ℕ) → is_plain a ≡ true → is_plain b ≡ true → is_plain (a ++ b) ≡ true
plain-join a b first second = list_all-append (λ byte. ltb byte 128) a b ∙ and_from (is_plain a) (is_plain b) first second

plain-two : (n : ℕ) → n < 100 → is_plain (two_digit_text n) ≡ true
plain-two n below =
    and_from (ltb (48 + n / 10) 128) _ (lt-ltb (48 + n / 10) 128 (omega arith))
    (and_from (ltb (48 + n % 10) 128) true (lt-ltb (48 + n % 10) 128 (omega arith)) refl)

plain-four : (n : ℕ) → n < 10000 → is_plain (four_digit_text n) ≡ true
plain-four n below =
    plain-join (two_digit_text (n / 100)) (two_digit_text (n % 100)) (plain-two (n / 100) (omega arith)) (plain-two (n % 100) (omega arith))

plain-years : (y : Option ℕ) → AreYears y → is_plain (years_text y) ≡ true
plain-years None in' = refl
plain-years (Some n) in' = plain-four n (omega (arith, in'))

plain-months : (m : Months) → AreMonths m → is_plain (months_text m) ≡ true
plain-months month.Any in' = refl
plain-months month.Odd in' = refl
plain-months month.Even in' = refl
plain-months (month.One n) in' = plain-two n (omega (arith, in'))

plain-days : (d : MonthDays) → AreMonthDays d → is_plain (month_days_text d) ≡ true
plain-days month_day.Any in' = refl
plain-days month_day.Last in' = refl
plain-days month_day.Odd in' = refl
plain-days month_day.Even in' = refl
plain-days (month_day.One n) in' = plain-two n (omega (arith, in'))

plain-date : (y : Option ℕ) (m : Months) (d : MonthDays) → AreYears y → AreMonths m → AreMonthDays d
    → is_plain (date_fields_text y m d) ≡ true
plain-date y m d years months days =
    plain-join (years_text y) (codes "-" ++ (months_text m ++ (codes "-" ++ month_days_text d))) (plain-years y years)
    (plain-join (codes "-") (months_text m ++ (codes "-" ++ month_days_text d)) refl
    (plain-join (months_text m) (codes "-" ++ month_days_text d) (plain-months m months)
    (plain-join (codes "-") (month_days_text d) refl (plain-days d days))))

plain-weekday : (w : Weekday) → is_plain (weekday_text w) ≡ true
plain-weekday weekday.Monday = refl
plain-weekday weekday.Tuesday = refl
plain-weekday weekday.Wednesday = refl
plain-weekday weekday.Thursday = refl
plain-weekday weekday.Friday = refl
plain-weekday weekday.Saturday = refl
plain-weekday weekday.Sunday = refl

plain-suffix : (w : Option Weekday) → is_plain (weekday_suffix w) ≡ true
plain-suffix None = refl
plain-suffix (Some w) = plain-join (codes "/") (weekday_text w) refl (plain-weekday w)

plain-weekdays : (w : Option Weekday) → is_plain (weekdays_text w) ≡ true
plain-weekdays None = refl
plain-weekdays (Some w) = plain-weekday w

plain-weeks : (w : Option Week) → is_plain (weeks_text w) ≡ true
plain-weeks None = refl
plain-weeks (Some week.First) = refl
plain-weeks (Some week.Second) = refl
plain-weeks (Some week.Third) = refl
plain-weeks (Some week.Fourth) = refl
plain-weeks (Some week.Fifth) = refl
plain-weeks (Some week.Last) = refl
plain-weeks (Some week.SecondLast) = refl
plain-weeks (Some week.ThirdLast) = refl
plain-weeks (Some week.FourthLast) = refl

plain-day : (day : Date) → IsOfYears day → is_plain (day_text day) ≡ true
plain-day day years =
    let y : ℕ = unsigned_abs day.year in
    let same : pos y ≡ day.year = year_number day.year years.0 in
    let long = days_in_month_bounds day.year day.month in
    let m : day.month < 100 = omega (arith, day.month_in) in
    let d : day.day < 100 = omega (arith, day.day_in) in
    plain-join (four_digit_text y) (codes "-" ++ (two_digit_text day.month ++ (codes "-" ++ two_digit_text day.day)))
    (plain-four y (omega (arith, signed_arith)))
    (plain-join (codes "-") (two_digit_text day.month ++ (codes "-" ++ two_digit_text day.day)) refl
    (plain-join (two_digit_text day.month) (codes "-" ++ two_digit_text day.day) (plain-two day.month m)
    (plain-join (codes "-") (two_digit_text day.day) refl (plain-two day.day d))))

plain-end : (end : Option Date) → IsRangeEnd end → is_plain (range_end_text end) ≡ true
plain-end None in' = refl
plain-end (Some day) in' = plain-day day in'

plain-spelling : (entry : Entry) → IsEntry entry → is_plain (spelling entry) ≡ true
unfolding spelling
plain-spelling (Pattern p) in' =
    plain-join (date_fields_text p.year p.months p.days) (weekday_suffix p.weekday)
    (plain-date p.year p.months p.days in'.0 in'.1 in'.2) (plain-suffix p.weekday)
plain-spelling (Range r) in' =
    plain-join (range_end_text r.start) (codes ".." ++ range_end_text r.end) (plain-end r.start in'.0)
    (plain-join (codes "..") (range_end_text r.end) refl (plain-end r.end in'.1))
plain-spelling (WeekNDay w) in' =
    plain-join (codes "wnd:") (months_text w.months ++ (codes ":" ++ (weeks_text w.week ++ (codes ":" ++ weekdays_text w.weekday)))) refl
    (plain-join (months_text w.months) (codes ":" ++ (weeks_text w.week ++ (codes ":" ++ weekdays_text w.weekday)))
    (plain-months w.months in')
    (plain-join (codes ":") (weeks_text w.week ++ (codes ":" ++ weekdays_text w.weekday)) refl
    (plain-join (weeks_text w.week) (codes ":" ++ weekdays_text w.weekday) (plain-weeks w.week)
    (plain-join (codes ":") (weekdays_text w.weekday) refl (plain-weekdays w.weekday)))))

utf8-plain : (text : List ℕ) → is_plain text ≡ true → IsUtf8 text
utf8-plain text plain =
    IsUtf8-from_ascii text (IsAscii-from_all text
    (All-weaker (λ byte. ltb byte 128 ≡ true) (λ byte. byte < 128) (λ byte passes. ltb-true byte 128 passes) text
    (AllPass-from_list_all (λ byte. ltb byte 128) text plain)))

entry-none : (text : List ℕ) (r : Result Entry EntryFault) → reading text ≡ r → (IsUtf8 text → ⊥) → entry_of r ≡ None
entry-none text (Ok entry) is not_text =
    let spells = reading-ok text entry is in
    absurd (not_text (utf8-plain text (ap is_plain spells.0 ∙ plain-spelling entry spells.1)))
entry-none text (Err fault) is not_text = refl

-- bytes that are no text spell no entry
pub no_entry : (text : List ℕ) → (IsUtf8 text → ⊥) → entry_of (reading text) ≡ None
no_entry text not_text = entry-none text (reading text) refl not_text

-- nor are they a name
pub no_name : (text : List ℕ) → (IsUtf8 text → ⊥) → is_name text ≡ false
no_name text not_text = false_from_ne_true (is_name text) (λ named. not_text (name_is_utf8 text named))
