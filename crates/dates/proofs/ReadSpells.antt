-- What reads as an entry is the spelling of that entry.
use Rattle.std.proofs.Common.{◌≡◌, ℕ, Bool, true, false, cond, ◌++◌, length, drop, nat_eq, codes, pos, unsigned_abs}
use Rattle.std.proofs.Common.{Option, Some, None, option_map, is_some, refl, sym, ap, ap₂, ◌∙◌, subst, arith}
use Rattle.std.specs.Cmp.{first_so}
use Rattle.std.specs.Prelude.{Result, Ok, Err}
use Rattle.std.specs.Option.{ok_or, option_map_or}
use Rattle.std.specs.List.{starts_with}
use Rattle.std.specs.Str.{bytes_eq}
use Rattle.std.proofs.lemmas.List.{append-nil}
use Rattle.std.proofs.lemmas.Slice.Eq.{bytes_eq-Decides}
use Rattle.jiff_core.specs.Calendar.{IsBetween}
use Rattle.jiff_core.specs.declared.civil.date.Date.{Date}
use Rattle.jiff_core.proofs.SignedLemmas.{signed_arith}
use Rattle.jiff_core.specs.declared.civil.weekday.Weekday.{Weekday}
use Rattle.dates.specs.declared.months.Months.{Months}
use Rattle.dates.specs.declared.months.Months.TheVariants as month
use Rattle.dates.specs.declared.month_days.MonthDays.{MonthDays}
use Rattle.dates.specs.declared.month_days.MonthDays.TheVariants as month_day
use Rattle.dates.specs.declared.date_fields.DateFields.{DateFields}
use Rattle.dates.specs.declared.pattern.Pattern.{Pattern}
use Rattle.dates.specs.declared.range.Range.{Range}
use Rattle.dates.specs.declared.week_n_day.WeekNDay.{WeekNDay}
use Rattle.dates.specs.declared.entry.Entry.{Entry}
use Rattle.dates.specs.declared.entry.Entry.TheVariants as entry
use Rattle.dates.specs.declared.entry_fault.EntryFault.{EntryFault}
use Rattle.dates.specs.declared.entry_fault.EntryFault.TheVariants as fault
use Rattle.dates.specs.DateFields.{one_day, date_fields_at, full_date_at, date_fields_text}
use Rattle.dates.specs.Day.{IsOfYears, day_of, day_with, passed, is_between-true, is_day, day_text}
use Rattle.dates.specs.Entry.{dates_at, reading, spelling, Spells}
use Rattle.points.specs.FaultSteps.{◌>>=◌}
use Rattle.dates.specs.MonthDays.{month_days_at, AreMonthDays, one_month_day}
use Rattle.dates.specs.Months.{months_at, AreMonths, one_month}
use Rattle.dates.specs.Notation.{cut_at, without_prefix, parts_at}
use Rattle.points.specs.Texts.{Text}
use Rattle.dates.specs.Pattern.{IsPattern, date_part, weekday_part, pattern_at, weekday_suffix, pattern_text}
use Rattle.dates.specs.Range.{IsRange, IsRangeEnd, range_end_at, range_at, range_end_text, range_text}
use Rattle.dates.specs.Week.{weeks_at}
use Rattle.dates.specs.WeekNDay.{IsWeekNDay, week_n_day_at, week_n_day_text}
use Rattle.dates.specs.Weekday.{weekday_at, weekdays_at}
use Rattle.dates.specs.Year.{years_at, AreYears}
use Rattle.dates.proofs.CutLemmas.{cut_at-some, append-starts_with}
use Rattle.dates.proofs.FieldTexts.{and_then-some, map-some, years_at-some, months_at-some, month_days_at-some}
use Rattle.dates.proofs.FieldTexts.{weekday_at-some, weekdays_at-some, weeks_at-some}

-- ---- a step that answers

then-ok : {A B : Type 0} (r : Result A EntryFault) (f : A → Result B EntryFault) (y : B) → (r >>= f) ≡ Ok y
    → (x : A) × (r ≡ Ok x) × (f x ≡ Ok y)
then-ok (Ok x) f y e = (x, refl, e)
then-ok (Err fault) f y e = let bad : ⊥ = cc in absurd bad

ok_or-ok : {A : Type 0} (o : Option A) (fault : EntryFault) (x : A) → ok_or o fault ≡ Ok x → o ≡ Some x
ok_or-ok None fault x e = let bad : ⊥ = cc in absurd bad
ok_or-ok (Some y) fault x e = let same : y ≡ x = cc in ap Some same

-- a step of a field
field-ok : {A B : Type 0} (o : Option A) (fault : EntryFault) (f : A → Result B EntryFault) (y : B) → (ok_or o fault >>= f) ≡ Ok y
    → (x : A) × (o ≡ Some x) × (f x ≡ Ok y)
field-ok o fault f y e =
    let step = then-ok (ok_or o fault) f y e in
    (step.0, ok_or-ok o fault step.0 step.1, step.2)

-- ---- the forms

abbrev three_of : Text → Text × Text × Text → Text
three_of mark p = p.0 ++ (mark ++ (p.1 ++ (mark ++ p.2)))

last_part : (mark : Text) (test : Bool) (p q : Text × Text × Text)
    → cond {A = Option (Text × Text × Text)} test None (Some p) ≡ Some q → three_of mark p ≡ three_of mark q
last_part mark true p q e = let bad : ⊥ = cc in absurd bad
last_part mark false p q e = let same : p ≡ q = cc in ap (three_of mark) same

parts_at-some : (mark text : Text) (p : Text × Text × Text) → parts_at mark text ≡ Some p → text ≡ three_of mark p
unfolding parts_at
parts_at-some mark text p e =
    let first = and_then-some _ (cut_at mark text) p e in
    let second = and_then-some _ (cut_at mark first.0.1) p first.2 in
    let whole = cut_at-some mark text first.0.0 first.0.1 first.1 in
    let rest = cut_at-some mark first.0.1 second.0.0 second.0.1 second.1 in
    whole ∙ ap (λ t. first.0.0 ++ (mark ++ t)) rest
    ∙ last_part mark (is_some (cut_at mark second.0.1)) (first.0.0, second.0.0, second.0.1) p second.2

-- three texts that are known
three_same : (mark : Text) (p : Text × Text × Text) (x y z : Text) → p.0 ≡ x → p.1 ≡ y → p.2 ≡ z → three_of mark p ≡ three_of mark (x, y, z)
three_same mark p x y z ex ey ez = rw (ex, ey, ez) refl

abbrev IsDateFields : DateFields → Type 0
IsDateFields f = AreYears f.year × AreMonths f.months × AreMonthDays f.days

date_fields_at-ok : (text : Text) (f : DateFields) → date_fields_at text ≡ Ok f
    → (text ≡ date_fields_text f.year f.months f.days) × IsDateFields f
unfolding date_fields_at
date_fields_at-ok text f e =
    let parts = field-ok (parts_at (codes "-") text) fault.Shape _ f e in
    let years = field-ok (years_at parts.0.0) fault.Year _ f parts.2 in
    let months = field-ok (months_at parts.0.1) fault.Month _ f years.2 in
    let days = field-ok (month_days_at parts.0.2) fault.Day _ f months.2 in
    let y = years_at-some parts.0.0 years.0 years.1 in
    let m = months_at-some parts.0.1 months.0 months.1 in
    let d = month_days_at-some parts.0.2 days.0 days.1 in
    let made : DateFields = record { year = years.0; months = months.0; days = days.0 } in
    let same : made ≡ f = cc in
    let P : DateFields → Type 0 = λ f. (text ≡ date_fields_text f.year f.months f.days) × IsDateFields f in
    subst P same (parts_at-some (codes "-") text parts.0 parts.1 ∙ three_same (codes "-") parts.0 _ _ _ y.0 m.0 d.0, (y.1, m.1, d.1))

-- a pattern's text, by its first `/`
pattern_parts : (text : Text) (cut : Option (Text × Text)) (w : Option Weekday) → cut_at (codes "/") text ≡ cut
    → option_map_or (λ cut. option_map Some (weekday_at cut.1)) cut (Some None) ≡ Some w
    → text ≡ option_map_or (λ cut. cut.0) cut text ++ weekday_suffix w
pattern_parts text None w is e =
    let same : None ≡ w = cc in
    sym (append-nil text) ∙ ap (λ w. text ++ weekday_suffix w) same
pattern_parts text (Some cut) w is e =
    let one = map-some Some (weekday_at cut.1) w e in
    let name = weekday_at-some cut.1 one.0 one.1 in
    cut_at-some (codes "/") text cut.0 cut.1 is ∙ ap (λ t. cut.0 ++ (codes "/" ++ t)) name
    ∙ ap (λ w. cut.0 ++ weekday_suffix w) one.2

pattern_at-ok : (text : Text) (p : Pattern) → pattern_at text ≡ Ok p → (text ≡ pattern_text p) × IsPattern p
unfolding pattern_at date_part weekday_part
pattern_at-ok text p e =
    let date = then-ok (date_fields_at (date_part text)) _ p e in
    let weekdays = field-ok (weekday_part text) fault.Weekday _ p date.2 in
    let fields = date_fields_at-ok (date_part text) date.0 date.1 in
    let whole = pattern_parts text (cut_at (codes "/") text) weekdays.0 refl weekdays.1 in
    let made : Pattern = record { year = date.0.year; months = date.0.months; days = date.0.days; weekday = weekdays.0 } in
    let same : made ≡ p = cc in
    let P : Pattern → Type 0 = λ p. (text ≡ pattern_text p) × IsPattern p in
    subst P same (whole ∙ ap (λ t. t ++ weekday_suffix weekdays.0) fields.0, fields.1)

one_month-some : (m : Months) (n : ℕ) → one_month m ≡ Some n → m ≡ month.One n
one_month-some month.Any n e = let bad : ⊥ = cc in absurd bad
one_month-some month.Odd n e = let bad : ⊥ = cc in absurd bad
one_month-some month.Even n e = let bad : ⊥ = cc in absurd bad
one_month-some (month.One k) n e = let same : k ≡ n = cc in ap month.One same

one_month_day-some : (d : MonthDays) (n : ℕ) → one_month_day d ≡ Some n → d ≡ month_day.One n
one_month_day-some month_day.Any n e = let bad : ⊥ = cc in absurd bad
one_month_day-some month_day.Last n e = let bad : ⊥ = cc in absurd bad
one_month_day-some month_day.Odd n e = let bad : ⊥ = cc in absurd bad
one_month_day-some month_day.Even n e = let bad : ⊥ = cc in absurd bad
one_month_day-some (month_day.One k) n e = let same : k ≡ n = cc in ap month_day.One same

-- the day of its parts
abbrev HasParts : ℕ → ℕ → ℕ → Date → Type 0
HasParts y m d day =
    (y ≡ unsigned_abs day.year) × (m ≡ day.month) × (d ≡ day.day) × IsOfYears day

day_of-is : (y m d : ℕ) (day : Date) → day_of y m d ≡ Some day → HasParts y m d day
unfolding day_of
day_of-is y m d day e =
    let made = map-some (day_with y m d) (passed (is_day y m d)) day e in
    let range = is_between-true 1900 2154 y (first_so _ _ made.0) in
    let year : IsBetween (pos 1900) (pos 2154) (pos y) = (omega (arith, signed_arith), omega (arith, signed_arith)) in
    let parts : HasParts y m d (day_with y m d made.0) = (refl, refl, refl, year) in
    subst (HasParts y m d) made.2 parts

pub full_date_at-ok : (text : Text) (day : Date) → full_date_at text ≡ Ok day → (text ≡ day_text day) × IsOfYears day
unfolding full_date_at one_day
full_date_at-ok text day e = by_test (is_some (cut_at (codes "/") text)) e
  where
    by_test : (test : Bool)
        → cond {A = Result Date EntryFault} test (Err fault.Shape)
        (date_fields_at text >>= λ date. one_day date.year date.months date.days) ≡ Ok day
        → (text ≡ day_text day) × IsOfYears day
    by_test true e = let bad : ⊥ = cc in absurd bad
    by_test false e =
        let date = then-ok (date_fields_at text) (λ date. one_day date.year date.months date.days) day e in
        let fields = date_fields_at-ok text date.0 date.1 in
        let y = field-ok date.0.year fault.HalfSpecified _ day date.2 in
        let m = field-ok (one_month date.0.months) fault.HalfSpecified _ day y.2 in
        let d = field-ok (one_month_day date.0.days) fault.HalfSpecified _ day m.2 in
        let parts = day_of-is y.0 m.0 d.0 day (ok_or-ok _ fault.Day day d.2) in
        let years = y.1 ∙ ap Some parts.0 in
        let months = one_month-some date.0.months m.0 m.1 ∙ ap month.One parts.1 in
        let days = one_month_day-some date.0.days d.0 d.1 ∙ ap month_day.One parts.2 in
        (fields.0 ∙ rw (years, months, days) refl, parts.3)

range_end_at-ok : (text : Text) (end : Option Date) → range_end_at text ≡ Ok end → (text ≡ range_end_text end) × IsRangeEnd end
unfolding range_end_at
range_end_at-ok text end e = by_test (bytes_eq text (codes "*")) refl e
  where
    by_test : (test : Bool) → bytes_eq text (codes "*") ≡ test
        → cond {A = Result (Option Date) EntryFault} test (Ok None) (full_date_at text >>= λ date. Ok (Some date)) ≡ Ok end
        → (text ≡ range_end_text end) × IsRangeEnd end
    by_test true is e =
        let same : None ≡ end = cc in
        let P : Option Date → Type 0 = λ end. (text ≡ range_end_text end) × IsRangeEnd end in
        subst P same ((bytes_eq-Decides text (codes "*")).0 is, tt)
    by_test false is e =
        let date = then-ok (full_date_at text) (λ date. Ok (Some date)) end e in
        let same : Some date.0 ≡ end = cc in
        let P : Option Date → Type 0 = λ end. (text ≡ range_end_text end) × IsRangeEnd end in
        subst P same (full_date_at-ok text date.0 date.1)

range_at-ok : (left right : Text) (r : Range) → range_at left right ≡ Ok r → (left ++ (codes ".." ++ right) ≡ range_text r) × IsRange r
unfolding range_at
range_at-ok left right r e =
    let start = then-ok (range_end_at left) _ r e in
    let end = then-ok (range_end_at right) _ r start.2 in
    let s = range_end_at-ok left start.0 start.1 in
    let t = range_end_at-ok right end.0 end.1 in
    let made : Range = record { start = start.0; end = end.0 } in
    let same : made ≡ r = cc in
    let P : Range → Type 0 = λ r. (left ++ (codes ".." ++ right) ≡ range_text r) × IsRange r in
    subst P same (ap₂ (λ a b. a ++ (codes ".." ++ b)) s.0 t.0, (s.1, t.1))

week_n_day_at-ok : (text : Text) (w : WeekNDay) → week_n_day_at text ≡ Ok w → (codes "wnd:" ++ text ≡ week_n_day_text w) × IsWeekNDay w
unfolding week_n_day_at
week_n_day_at-ok text w e =
    let parts = field-ok (parts_at (codes ":") text) fault.Shape _ w e in
    let months = field-ok (months_at parts.0.0) fault.Month _ w parts.2 in
    let weeks = field-ok (weeks_at parts.0.1) fault.Week _ w months.2 in
    let weekdays = field-ok (weekdays_at parts.0.2) fault.Weekday _ w weeks.2 in
    let m = months_at-some parts.0.0 months.0 months.1 in
    let k = weeks_at-some parts.0.1 weeks.0 weeks.1 in
    let d = weekdays_at-some parts.0.2 weekdays.0 weekdays.1 in
    let made : WeekNDay = record { months = months.0; week = weeks.0; weekday = weekdays.0 } in
    let same : made ≡ w = cc in
    let P : WeekNDay → Type 0 = λ w. (codes "wnd:" ++ text ≡ week_n_day_text w) × IsWeekNDay w in
    subst P same (
      ap (λ t. codes "wnd:" ++ t) (parts_at-some (codes ":") text parts.0 parts.1
          ∙ three_same (codes ":") parts.0 _ _ _ m.0 k d),
      m.1,
    )

without_prefix-some : (mark text rest : Text) → without_prefix mark text ≡ Some rest → text ≡ mark ++ rest
unfolding without_prefix
without_prefix-some mark text rest e = by_test (starts_with nat_eq text mark) refl e
  where
    by_test : (test : Bool) → starts_with nat_eq text mark ≡ test
        → cond {A = Option Text} test (Some (drop (length mark) text)) None ≡ Some rest → text ≡ mark ++ rest
    by_test true is e =
        let same : drop (length mark) text ≡ rest = cc in
        append-starts_with text mark is ∙ ap (λ t. mark ++ t) same
    by_test false is e = let bad : ⊥ = cc in absurd bad

dates_at-ok : (text : Text) (e : Entry) → dates_at text ≡ Ok e → Spells text e
unfolding dates_at spelling
dates_at-ok text e h = by_cut (cut_at (codes "..") text) refl h
  where
    by_cut : (cut : Option (Text × Text)) → cut_at (codes "..") text ≡ cut
        → option_map_or (λ ends. range_at ends.0 ends.1 >>= λ r. Ok (entry.Range r)) cut
        (pattern_at text >>= λ p. Ok (entry.Pattern p)) ≡ Ok e
        → Spells text e
    by_cut None is h =
        let p = then-ok (pattern_at text) (λ p. Ok (entry.Pattern p)) e h in
        let same : entry.Pattern p.0 ≡ e = cc in
        subst (Spells text) same (pattern_at-ok text p.0 p.1)
    by_cut (Some cut) is h =
        let r = then-ok (range_at cut.0 cut.1) (λ r. Ok (entry.Range r)) e h in
        let same : entry.Range r.0 ≡ e = cc in
        let range = range_at-ok cut.0 cut.1 r.0 r.1 in
        subst (Spells text) same (cut_at-some (codes "..") text cut.0 cut.1 is ∙ range.0, range.1)

-- ---- what reads as an entry is its spelling

pub reading-ok : (text : Text) (e : Entry) → reading text ≡ Ok e → Spells text e
unfolding reading spelling
reading-ok text e h = by_prefix (without_prefix (codes "wnd:") text) refl h
  where
    by_prefix : (parts : Option Text) → without_prefix (codes "wnd:") text ≡ parts
        → option_map_or (λ parts. week_n_day_at parts >>= λ w. Ok (entry.WeekNDay w)) parts (dates_at text) ≡ Ok e → Spells text e
    by_prefix None is h = dates_at-ok text e h
    by_prefix (Some parts) is h =
        let w = then-ok (week_n_day_at parts) (λ w. Ok (entry.WeekNDay w)) e h in
        let same : entry.WeekNDay w.0 ≡ e = cc in
        let week_n_day = week_n_day_at-ok parts w.0 w.1 in
        subst (Spells text) same (without_prefix-some (codes "wnd:") text parts is ∙ week_n_day.0, week_n_day.1)
