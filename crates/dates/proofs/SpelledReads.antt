-- The spelling of an entry reads as that entry.
use Rattle.std.proofs.Common.{◌≡◌, ◌≢◌, ℕ, ◌+◌, ◌/◌, ◌%◌, ◌<◌, true, not, [], ◌∷◌, ◌++◌, nat_eq, codes}
use Rattle.std.proofs.Common.{Option, Some, None, ℤ, pos, negsuc, ◌≤ℤ◌, unsigned_abs, refl, ap, ◌∙◌, arith}
use Rattle.std.specs.Prelude.{Ok}
use Rattle.std.proofs.Math.Seq.{drop-append_seam}
use Rattle.std.proofs.lemmas.List.{append-nil}
use Rattle.std.proofs.lemmas.Bool.Decides.{nat_tests}
use Rattle.jiff_core.specs.declared.civil.date.Date.{Date}
use Rattle.jiff_core.specs.declared.civil.weekday.Weekday.{Weekday}
use Rattle.jiff_core.specs.declared.civil.weekday.Weekday.TheVariants.{Monday, Tuesday, Wednesday, Thursday, Friday, Saturday, Sunday}
use Rattle.jiff_core.proofs.CalendarLemmas.{days_in_month_bounds}
use Rattle.jiff_core.proofs.SignedLemmas.{signed_arith}
use Rattle.dates.specs.declared.months.Months.{Months}
use Rattle.dates.specs.declared.months.Months.TheVariants as month
use Rattle.dates.specs.declared.month_days.MonthDays.{MonthDays}
use Rattle.dates.specs.declared.month_days.MonthDays.TheVariants as month_day
use Rattle.dates.specs.declared.week.Week.{Week}
use Rattle.dates.specs.declared.week.Week.TheVariants.{First, Second, Third, Fourth, Fifth, Last, SecondLast, ThirdLast, FourthLast}
use Rattle.dates.specs.declared.pattern.Pattern.{Pattern}
use Rattle.dates.specs.declared.entry.Entry.{Entry}
use Rattle.dates.specs.declared.entry.Entry.TheVariants as entry
use Rattle.dates.specs.DateFields.{one_day, date_fields_at, full_date_at, date_fields_text}
use Rattle.dates.specs.Day.{IsOfYears, day_of, day_with, IsDay, day_text}
use Rattle.dates.specs.Entry.{IsEntry, dates_at, reading, spelling}
use Rattle.dates.specs.MonthDays.{AreMonthDays, month_days_text}
use Rattle.dates.specs.Months.{AreMonths, months_text}
use Rattle.dates.specs.Notation.{without_prefix, parts_at, two_digit_text}
use Rattle.points.specs.Texts.{Text}
use Rattle.dates.specs.Pattern.{IsPattern, date_part, weekday_part, pattern_at, weekday_suffix, pattern_text}
use Rattle.dates.specs.Range.{IsRangeEnd, range_end_at, range_at, range_end_text}
use Rattle.dates.specs.Week.{weeks_text}
use Rattle.dates.specs.WeekNDay.{week_n_day_at}
use Rattle.dates.specs.Weekday.{weekdays_text, weekday_text}
use Rattle.dates.specs.Year.{AreYears, years_text}
use Rattle.dates.proofs.CutLemmas.{lacks, lacks-append, starts_with-append, starts_with-other, cut_at-lacking, cut_at-absent}
use Rattle.dates.proofs.DayLemmas.{day_of-some, is_day-IsDay, same_parts}
use Rattle.dates.proofs.FieldLemmas.{bytes_eq-length, years_at-text, months_at-text, month_days_at-text, weekday_at-text, weekdays_at-text, weeks_at-text}

-- ---- no field has a mark of the notation

other_byte : (c b : ℕ) → c ≢ b → not (nat_eq c b) ≡ true
other_byte c b apart = grind (arith, nat_tests)

lacks-one : (c x : ℕ) → c ≢ x → lacks c (x ∷ []) ≡ true
lacks-one c x apart = rw (other_byte c x apart) refl

lacks-more : (c x : ℕ) (text : Text) → c ≢ x → lacks c text ≡ true → lacks c (x ∷ text) ≡ true
lacks-more c x text apart rest = rw (other_byte c x apart, rest) refl

lacks-two : (c n : ℕ) → c ≢ 48 + n / 10 → c ≢ 48 + n % 10 → lacks c (two_digit_text n) ≡ true
lacks-two c n tens units = rw (other_byte c (48 + n / 10) tens, other_byte c (48 + n % 10) units) refl

-- a mark of the notation that no field has: it stands before the digits and is no `*`
abbrev IsMark : ℕ → Type 0
IsMark c = (c < 48) × (c ≢ 42)

lacks-years : (c : ℕ) → IsMark c → (y : Option ℕ) → lacks c (years_text y) ≡ true
lacks-years c mark None = lacks-one c 42 mark.1
lacks-years c mark (Some n) =
    lacks-append c (two_digit_text (n / 100)) (two_digit_text (n % 100)) (lacks-two c (n / 100) (omega arith) (omega arith))
    (lacks-two c (n % 100) (omega arith) (omega arith))

lacks-odd : (c : ℕ) → IsMark c → lacks c (codes "odd") ≡ true
lacks-odd c mark =
    rw (other_byte c 111 (omega arith), other_byte c 100 (omega arith)) refl

lacks-even : (c : ℕ) → IsMark c → lacks c (codes "even") ≡ true
lacks-even c mark =
    rw (other_byte c 101 (omega arith), other_byte c 118 (omega arith), other_byte c 110 (omega arith)) refl

lacks-last : (c : ℕ) → IsMark c → lacks c (codes "last") ≡ true
lacks-last c mark =
    rw (other_byte c 108 (omega arith), other_byte c 97 (omega arith), other_byte c 115 (omega arith), other_byte c 116 (omega arith)) refl

lacks-months : (c : ℕ) → IsMark c → (m : Months) → lacks c (months_text m) ≡ true
lacks-months c mark month.Any = lacks-one c 42 mark.1
lacks-months c mark month.Odd = lacks-odd c mark
lacks-months c mark month.Even = lacks-even c mark
lacks-months c mark (month.One n) = lacks-two c n (omega arith) (omega arith)

lacks-month_days : (c : ℕ) → IsMark c → (d : MonthDays) → lacks c (month_days_text d) ≡ true
lacks-month_days c mark month_day.Any = lacks-one c 42 mark.1
lacks-month_days c mark month_day.Last = lacks-last c mark
lacks-month_days c mark month_day.Odd = lacks-odd c mark
lacks-month_days c mark month_day.Even = lacks-even c mark
lacks-month_days c mark (month_day.One n) = lacks-two c n (omega arith) (omega arith)

lacks-date_fields : (c : ℕ) → IsMark c → c ≢ 45 → (y : Option ℕ) (m : Months) (d : MonthDays) → lacks c (date_fields_text y m d) ≡ true
lacks-date_fields c mark dash y m d =
    let days = lacks-more c 45 (month_days_text d) dash (lacks-month_days c mark d) in
    let months = lacks-append c (months_text m) (45 ∷ month_days_text d) (lacks-months c mark m) days in
    lacks-append c (years_text y) (45 ∷ (months_text m ++ (45 ∷ month_days_text d))) (lacks-years c mark y)
    (lacks-more c 45 (months_text m ++ (45 ∷ month_days_text d)) dash months)

slash : IsMark 47
slash = (omega arith, λ e. absurd (omega arith))

dot : IsMark 46
dot = (omega arith, λ e. absurd (omega arith))

dash : IsMark 45
dash = (omega arith, λ e. absurd (omega arith))

lacks_dot-suffix : (w : Option Weekday) → lacks 46 (weekday_suffix w) ≡ true
lacks_dot-suffix None = refl
lacks_dot-suffix (Some Monday) = refl
lacks_dot-suffix (Some Tuesday) = refl
lacks_dot-suffix (Some Wednesday) = refl
lacks_dot-suffix (Some Thursday) = refl
lacks_dot-suffix (Some Friday) = refl
lacks_dot-suffix (Some Saturday) = refl
lacks_dot-suffix (Some Sunday) = refl

lacks_colon-months : (m : Months) → AreMonths m → lacks 58 (months_text m) ≡ true
lacks_colon-months month.Any h = refl
lacks_colon-months month.Odd h = refl
lacks_colon-months month.Even h = refl
lacks_colon-months (month.One n) h = lacks-two 58 n (omega arith) (omega arith)

lacks_colon-weeks : (w : Option Week) → lacks 58 (weeks_text w) ≡ true
lacks_colon-weeks None = refl
lacks_colon-weeks (Some First) = refl
lacks_colon-weeks (Some Second) = refl
lacks_colon-weeks (Some Third) = refl
lacks_colon-weeks (Some Fourth) = refl
lacks_colon-weeks (Some Fifth) = refl
lacks_colon-weeks (Some Last) = refl
lacks_colon-weeks (Some SecondLast) = refl
lacks_colon-weeks (Some ThirdLast) = refl
lacks_colon-weeks (Some FourthLast) = refl

lacks_colon-weekdays : (w : Option Weekday) → lacks 58 (weekdays_text w) ≡ true
lacks_colon-weekdays None = refl
lacks_colon-weekdays (Some Monday) = refl
lacks_colon-weekdays (Some Tuesday) = refl
lacks_colon-weekdays (Some Wednesday) = refl
lacks_colon-weekdays (Some Thursday) = refl
lacks_colon-weekdays (Some Friday) = refl
lacks_colon-weekdays (Some Saturday) = refl
lacks_colon-weekdays (Some Sunday) = refl

-- ---- the forms

parts_at-text : (c : ℕ) (x y z : Text) → lacks c x ≡ true → lacks c y ≡ true → lacks c z ≡ true
    → parts_at (c ∷ []) (x ++ (c ∷ (y ++ (c ∷ z)))) ≡ Some (x, y, z)
unfolding parts_at
parts_at-text c x y z hx hy hz =
    rw (cut_at-lacking c [] x (y ++ (c ∷ z)) hx, cut_at-lacking c [] y z hy, cut_at-absent c [] z hz) refl

pub date_fields_at-text : (y : Option ℕ) (m : Months) (d : MonthDays) → AreYears y → AreMonths m → AreMonthDays d
    → date_fields_at (date_fields_text y m d) ≡ Ok (record { year = y; months = m; days = d })
unfolding date_fields_at
date_fields_at-text y m d hy hm hd =
    rw (
      parts_at-text 45 (years_text y) (months_text m) (month_days_text d) (lacks-years 45 dash y) (lacks-months 45 dash m)
          (lacks-month_days 45 dash d),
      years_at-text y hy,
      months_at-text m hm,
      month_days_at-text d hd,
    ) refl

pattern_at-fields : (y : Option ℕ) (m : Months) (d : MonthDays) (w : Option Weekday) → AreYears y → AreMonths m → AreMonthDays d
    → pattern_at (date_fields_text y m d ++ weekday_suffix w) ≡ Ok (record { year = y; months = m; days = d; weekday = w })
unfolding pattern_at date_part weekday_part
pattern_at-fields y m d None hy hm hd =
    let text = date_fields_text y m d in
    rw (append-nil text, cut_at-absent 47 [] text (lacks-date_fields 47 slash (omega arith) y m d), date_fields_at-text y m d hy hm hd) refl
pattern_at-fields y m d (Some w) hy hm hd =
    let text = date_fields_text y m d in
    rw (
      cut_at-lacking 47 [] text (weekday_text w) (lacks-date_fields 47 slash (omega arith) y m d),
      date_fields_at-text y m d hy hm hd,
      weekday_at-text w,
    ) refl

pub pattern_at-text : (p : Pattern) → IsPattern p → pattern_at (pattern_text p) ≡ Ok p
pattern_at-text p h = pattern_at-fields p.year p.months p.days p.weekday h.0 h.1 h.2

pub year_number : (year : ℤ) → pos 1900 ≤ℤ year → pos (unsigned_abs year) ≡ year
year_number (pos n) h = refl
year_number (negsuc n) h = absurd (omega (arith, signed_arith))

-- the parts of a day of these years are such parts
IsDay-parts : (day : Date) → IsOfYears day → IsDay day.year day.month day.day
IsDay-parts day h =
    let m = day.month_in in
    let d = day.day_in in (
      h,
      (
        day.year_in,
        (omega (arith, signed_arith, m), omega (arith, signed_arith, m)),
        (omega (arith, signed_arith, d), omega (arith, signed_arith, d)),
      ),
    )

-- and the day is the day of its parts
day_of-parts : (day : Date) → IsOfYears day → day_of (unsigned_abs day.year) day.month day.day ≡ Some day
day_of-parts day h =
    let y : ℕ = unsigned_abs day.year in
    let year : pos y ≡ day.year = year_number day.year h.0 in
    let is : IsDay (pos y) day.month day.day = rw year (IsDay-parts day h) in
    let some = day_of-some y day.month day.day (is_day-IsDay y day.month day.day is) in
    some.1 ∙ ap Some (same_parts (day_with y day.month day.day some.0) day year refl refl)

pub full_date_at-text : (day : Date) → IsOfYears day → full_date_at (day_text day) ≡ Ok day
unfolding full_date_at one_day
full_date_at-text day h =
    let y : Option ℕ = Some (unsigned_abs day.year) in
    let m = month.One day.month in
    let d = month_day.One day.day in
    let long = days_in_month_bounds day.year day.month in
    let same = year_number day.year h.0 in
    rw (
      cut_at-absent 47 [] (day_text day) (lacks-date_fields 47 slash (omega arith) y m d),
      date_fields_at-text y m d (omega (arith, signed_arith), omega (arith, signed_arith)) day.month_in
          (omega (arith, day.day_in), omega (arith, day.day_in)),
      day_of-parts day h,
    ) refl

range_end_at-text : (end : Option Date) → IsRangeEnd end → range_end_at (range_end_text end) ≡ Ok end
unfolding range_end_at
range_end_at-text None h = refl
range_end_at-text (Some day) h =
    rw (bytes_eq-length (day_text day) (codes "*") (omega arith), full_date_at-text day h) refl

lacks_dot-end : (end : Option Date) → lacks 46 (range_end_text end) ≡ true
lacks_dot-end None = refl
lacks_dot-end (Some day) =
    lacks-date_fields 46 dot (omega arith) (Some (unsigned_abs day.year)) (month.One day.month) (month_day.One day.day)

week_n_day_at-fields : (m : Months) (k : Option Week) (w : Option Weekday) → AreMonths m
    → week_n_day_at (months_text m ++ (58 ∷ (weeks_text k ++ (58 ∷ weekdays_text w)))) ≡ Ok (record { months = m; week = k; weekday = w })
unfolding week_n_day_at
week_n_day_at-fields m k w h =
    rw (
      parts_at-text 58 (months_text m) (weeks_text k) (weekdays_text w) (lacks_colon-months m h) (lacks_colon-weeks k)
          (lacks_colon-weekdays w),
      months_at-text m h,
      weeks_at-text k,
      weekdays_at-text w,
    ) refl

-- ---- which of the forms

other_prefix : (x : ℕ) (rest : Text) → 119 ≢ x → without_prefix (codes "wnd:") (x ∷ rest) ≡ None
unfolding without_prefix
other_prefix x rest apart =
    rw (starts_with-other 119 x (codes "nd:") rest (other_byte 119 x apart)) refl

other_prefix-years : (y : Option ℕ) (a b : Text) → AreYears y → without_prefix (codes "wnd:") ((years_text y ++ a) ++ b) ≡ None
other_prefix-years None a b h = other_prefix 42 (a ++ b) (omega arith)
other_prefix-years (Some n) a b h = other_prefix (48 + n / 100 / 10) _ (omega arith)

other_prefix-end : (end : Option Date) (rest : Text) → IsRangeEnd end → without_prefix (codes "wnd:") (range_end_text end ++ rest) ≡ None
other_prefix-end None rest h = other_prefix 42 rest (omega arith)
other_prefix-end (Some day) rest h =
    let same = year_number day.year h.0 in
    other_prefix (48 + unsigned_abs day.year / 100 / 10) _ (omega (arith, signed_arith))

own_prefix : (mark rest : Text) → without_prefix mark (mark ++ rest) ≡ Some rest
unfolding without_prefix
own_prefix mark rest = rw (starts_with-append mark rest, drop-append_seam mark rest) refl

-- ---- each entry reads from its spelling

pub reading-text : (e : Entry) → IsEntry e → reading (spelling e) ≡ Ok e
unfolding reading dates_at range_at spelling
reading-text (entry.Pattern p) h =
    let date = date_fields_text p.year p.months p.days in
    let suffix = weekday_suffix p.weekday in
    let no_dot = lacks-date_fields 46 dot (omega arith) p.year p.months p.days in
    rw (
      other_prefix-years p.year _ suffix h.0,
      cut_at-absent 46 (codes ".") (pattern_text p) (lacks-append 46 date suffix no_dot (lacks_dot-suffix p.weekday)),
      pattern_at-text p h,
    ) refl
reading-text (entry.Range r) h =
    rw (
      other_prefix-end r.start (codes ".." ++ range_end_text r.end) h.0,
      cut_at-lacking 46 (codes ".") (range_end_text r.start) (range_end_text r.end) (lacks_dot-end r.start),
      range_end_at-text r.start h.0,
      range_end_at-text r.end h.1,
    ) refl
reading-text (entry.WeekNDay w) h =
    rw (
      own_prefix (codes "wnd:") (months_text w.months ++ (codes ":" ++ (weeks_text w.week ++ (codes ":" ++ weekdays_text w.weekday)))),
      week_n_day_at-fields w.months w.week w.weekday h,
    ) refl
