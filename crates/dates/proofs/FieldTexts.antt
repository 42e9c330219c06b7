-- What reads as a field is the text of that field.
use Rattle.std.proofs.Common.{◌≡◌, ◌≢◌, ℕ, ◌+◌, ◌-◌, ◌*◌, ◌/◌, ◌%◌, ◌<◌, Bool, true, false, cond, [], ◌∷◌, length}
use Rattle.std.proofs.Common.{nat_eq, codes, Option, Some, None, option_map, refl, ap, ap₂, ◌∙◌, subst, arith}
use Rattle.std.specs.Int.{IsInRange}
use Rattle.std.specs.Option.{option_and_then}
use Rattle.std.specs.Str.{bytes_eq}
use Rattle.std.proofs.lemmas.Bool.Decides.{nat_tests}
use Rattle.std.proofs.lemmas.Slice.Eq.{bytes_eq-Decides}
use Rattle.jiff_core.specs.declared.civil.weekday.Weekday.{Weekday}
use Rattle.jiff_core.specs.declared.civil.weekday.Weekday.TheVariants.{Monday, Tuesday, Wednesday, Thursday, Friday, Saturday, Sunday}
use Rattle.dates.specs.declared.months.Months.{Months}
use Rattle.dates.specs.declared.months.Months.TheVariants as month
use Rattle.dates.specs.declared.month_days.MonthDays.{MonthDays}
use Rattle.dates.specs.declared.month_days.MonthDays.TheVariants as month_day
use Rattle.dates.specs.declared.week.Week.{Week}
use Rattle.dates.specs.declared.week.Week.TheVariants.{First, Second, Third, Fourth, Fifth, Last, SecondLast, ThirdLast, FourthLast}
use Rattle.dates.specs.Between.{is_between, between}
use Rattle.dates.specs.Day.{is_between-true}
use Rattle.dates.specs.MonthDays.{month_days_at, AreMonthDays, month_days_text}
use Rattle.dates.specs.Months.{months_at, AreMonths, months_text}
use Rattle.dates.specs.Notation.{digit_at, two_digits, four_digits, two_digit_text, four_digit_text}
use Rattle.points.specs.Texts.{Text}
use Rattle.dates.specs.Week.{week_at, weeks_at, week_text, weeks_text}
use Rattle.dates.specs.Weekday.{weekday_at, weekdays_at, weekdays_text, weekday_text}
use Rattle.dates.specs.Year.{years_at, AreYears, years_text}

-- ---- a step that answers

pub and_then-some : {A B : Type 0} (f : A → Option B) (o : Option A) (y : B) → option_and_then f o ≡ Some y
    → (x : A) × (o ≡ Some x) × (f x ≡ Some y)
and_then-some f None y e = let bad : ⊥ = cc in absurd bad
and_then-some f (Some x) y e = (x, refl, e)

pub map-some : {A B : Type 0} (f : A → B) (o : Option A) (y : B) → option_map f o ≡ Some y → (x : A) × (o ≡ Some x) × (f x ≡ y)
map-some f None y e = let bad : ⊥ = cc in absurd bad
map-some f (Some x) y e = let same : f x ≡ y = cc in (x, refl, same)

-- a test of the text, and what follows where it fails
pub choice : {A : Type 0} (P : A → Type 0) (text word : Text) (v y : A) (rest : Option A)
    → cond (bytes_eq text word) (Some v) rest ≡ Some y → (text ≡ word → P v) → (rest ≡ Some y → P y) → P y
choice {A = A} P text word v y rest e yes_so no_so = by_test (bytes_eq text word) refl e
  where
    by_test : (test : Bool) → bytes_eq text word ≡ test → cond test (Some v) rest ≡ Some y → P y
    by_test true is e = let same : v ≡ y = cc in subst P same (yes_so ((bytes_eq-Decides text word).0 is))
    by_test false is e = no_so e

-- ---- from a text to its digits

digit_at-some : (byte d : ℕ) → digit_at byte ≡ Some d → (byte ≡ 48 + d) × (d < 10)
unfolding digit_at
digit_at-some byte d e = by_test (is_between 48 57 byte) refl e
  where
    by_test : (test : Bool) → is_between 48 57 byte ≡ test → cond test (Some (byte - 48)) None ≡ Some d → (byte ≡ 48 + d) × (d < 10)
    by_test true is e =
        let range = is_between-true 48 57 byte is in
        let same : byte - 48 ≡ d = cc in
        (omega arith, omega arith)
    by_test false is e = let bad : ⊥ = cc in absurd bad

between-in : (low high n m : ℕ) → between low high n ≡ Some m → (n ≡ m) × IsInRange low high m
between-in low high n m e = by_test (is_between low high n) refl e
  where
    by_test : (test : Bool) → is_between low high n ≡ test → cond test (Some n) None ≡ Some m → (n ≡ m) × IsInRange low high m
    by_test true is e =
        let same : n ≡ m = cc in
        (same, subst (IsInRange low high) same (is_between-true low high n is))
    by_test false is e = let bad : ⊥ = cc in absurd bad

other_length : (n k : ℕ) → n ≢ k → nat_eq n k ≡ false
other_length n k apart = grind (arith, nat_tests)

two_digits-some : (text : Text) (n : ℕ) → two_digits text ≡ Some n → (text ≡ two_digit_text n) × (n < 100)
unfolding two_digits
two_digits-some [] n e = let bad : ⊥ = cc in absurd bad
two_digits-some (a ∷ []) n e = let bad : ⊥ = cc in absurd bad
two_digits-some (a ∷ b ∷ []) n e =
    let first = and_then-some _ (digit_at a) n e in
    let second = and_then-some _ (digit_at b) n first.2 in
    let sum : 10 * first.0 + second.0 ≡ n = cc in
    let tens = digit_at-some a first.0 first.1 in
    let units = digit_at-some b second.0 second.1 in
    let ten : a ≡ 48 + n / 10 = omega arith in
    let one : b ≡ 48 + n % 10 = omega arith in
    (ap₂ (λ x y. x ∷ (y ∷ [])) ten one, omega arith)
two_digits-some (a ∷ b ∷ c ∷ rest) n e =
    let none = rw (other_length (length (a ∷ b ∷ c ∷ rest)) 2 (omega arith)) at e in
    let bad : ⊥ = cc in absurd bad

four_digits-some : (text : Text) (n : ℕ) → four_digits text ≡ Some n → (text ≡ four_digit_text n) × (n < 10000)
unfolding four_digits
four_digits-some [] n e = let bad : ⊥ = cc in absurd bad
four_digits-some (a ∷ []) n e = let bad : ⊥ = cc in absurd bad
four_digits-some (a ∷ b ∷ []) n e = let bad : ⊥ = cc in absurd bad
four_digits-some (a ∷ b ∷ c ∷ []) n e = let bad : ⊥ = cc in absurd bad
four_digits-some (a ∷ b ∷ c ∷ d ∷ []) n e =
    let first = and_then-some _ (digit_at a) n e in
    let second = and_then-some _ (digit_at b) n first.2 in
    let third = and_then-some _ (digit_at c) n second.2 in
    let fourth = and_then-some _ (digit_at d) n third.2 in
    let sum : 1000 * first.0 + 100 * second.0 + 10 * third.0 + fourth.0 ≡ n = cc in
    let da = digit_at-some a first.0 first.1 in
    let db = digit_at-some b second.0 second.1 in
    let dc = digit_at-some c third.0 third.1 in
    let dd = digit_at-some d fourth.0 fourth.1 in
    let hundreds : n / 100 ≡ 10 * first.0 + second.0 = omega arith in
    let rest : n % 100 ≡ 10 * third.0 + fourth.0 = omega arith in
    let ea : a ≡ 48 + n / 100 / 10 = omega arith in
    let eb : b ≡ 48 + n / 100 % 10 = omega arith in
    let ec : c ≡ 48 + n % 100 / 10 = omega arith in
    let ed : d ≡ 48 + n % 100 % 10 = omega arith in (
      ap₂ (λ x y. x ∷ (y ∷ (c ∷ (d ∷ [])))) ea eb
          ∙ ap₂ (λ x y. (48 + n / 100 / 10) ∷ ((48 + n / 100 % 10) ∷ (x ∷ (y ∷ [])))) ec ed,
      omega arith,
    )
four_digits-some (a ∷ b ∷ c ∷ d ∷ x ∷ rest) n e =
    let none = rw (other_length (length (a ∷ b ∷ c ∷ d ∷ x ∷ rest)) 4 (omega arith)) at e in
    let bad : ⊥ = cc in absurd bad

-- ---- from a text to its field

pub years_at-some : (text : Text) (y : Option ℕ) → years_at text ≡ Some y → (text ≡ years_text y) × AreYears y
unfolding years_at
years_at-some text y e =
    let P : Option ℕ → Type 0 = λ y. (text ≡ years_text y) × AreYears y in
    choice P text (codes "*") None y _ e (λ is. (is, tt))
    (λ e. let one = map-some Some _ y e in
    let digits = and_then-some (between 1900 2154) (four_digits text) one.0 one.1 in
    let range = between-in 1900 2154 digits.0 one.0 digits.2 in
    let is = four_digits-some text digits.0 digits.1 in
    subst P one.2 (is.0 ∙ ap four_digit_text range.0, range.1))

pub months_at-some : (text : Text) (m : Months) → months_at text ≡ Some m → (text ≡ months_text m) × AreMonths m
unfolding months_at
months_at-some text m e =
    let P : Months → Type 0 = λ m. (text ≡ months_text m) × AreMonths m in
    choice P text (codes "*") month.Any m _ e (λ is. (is, tt))
    (λ e. choice P text (codes "odd") month.Odd m _ e (λ is. (is, tt))
    (λ e. choice P text (codes "even") month.Even m _ e (λ is. (is, tt))
    (λ e. let one = map-some month.One _ m e in
    let digits = and_then-some (between 1 12) (two_digits text) one.0 one.1 in
    let range = between-in 1 12 digits.0 one.0 digits.2 in
    let is = two_digits-some text digits.0 digits.1 in
    subst P one.2 (is.0 ∙ ap two_digit_text range.0, range.1))))

pub month_days_at-some : (text : Text) (d : MonthDays) → month_days_at text ≡ Some d → (text ≡ month_days_text d) × AreMonthDays d
unfolding month_days_at
month_days_at-some text d e =
    let P : MonthDays → Type 0 = λ d. (text ≡ month_days_text d) × AreMonthDays d in
    choice P text (codes "*") month_day.Any d _ e (λ is. (is, tt))
    (λ e. choice P text (codes "last") month_day.Last d _ e (λ is. (is, tt))
    (λ e. choice P text (codes "odd") month_day.Odd d _ e (λ is. (is, tt))
    (λ e. choice P text (codes "even") month_day.Even d _ e (λ is. (is, tt))
    (λ e. let one = map-some month_day.One _ d e in
    let digits = and_then-some (between 1 31) (two_digits text) one.0 one.1 in
    let range = between-in 1 31 digits.0 one.0 digits.2 in
    let is = two_digits-some text digits.0 digits.1 in
    subst P one.2 (is.0 ∙ ap two_digit_text range.0, range.1)))))

pub weekday_at-some : (text : Text) (w : Weekday) → weekday_at text ≡ Some w → text ≡ weekday_text w
unfolding weekday_at
weekday_at-some text w e =
    let P : Weekday → Type 0 = λ w. text ≡ weekday_text w in
    choice P text (codes "mon") Monday w _ e (λ is. is)
    (λ e. choice P text (codes "tue") Tuesday w _ e (λ is. is)
    (λ e. choice P text (codes "wed") Wednesday w _ e (λ is. is)
    (λ e. choice P text (codes "thu") Thursday w _ e (λ is. is)
    (λ e. choice P text (codes "fri") Friday w _ e (λ is. is)
    (λ e. choice P text (codes "sat") Saturday w _ e (λ is. is)
    (λ e. choice P text (codes "sun") Sunday w _ e (λ is. is)
    (λ e. let bad : ⊥ = cc in absurd bad)))))))

pub weekdays_at-some : (text : Text) (w : Option Weekday) → weekdays_at text ≡ Some w → text ≡ weekdays_text w
unfolding weekdays_at
weekdays_at-some text w e =
    let P : Option Weekday → Type 0 = λ w. text ≡ weekdays_text w in
    choice P text (codes "*") None w _ e (λ is. is)
    (λ e. let one = map-some Some (weekday_at text) w e in
    subst P one.2 (weekday_at-some text one.0 one.1))

week_at-some : (text : Text) (w : Week) → week_at text ≡ Some w → text ≡ week_text w
unfolding week_at
week_at-some text w e =
    let P : Week → Type 0 = λ w. text ≡ week_text w in
    choice P text (codes "1") First w _ e (λ is. is)
    (λ e. choice P text (codes "2") Second w _ e (λ is. is)
    (λ e. choice P text (codes "3") Third w _ e (λ is. is)
    (λ e. choice P text (codes "4") Fourth w _ e (λ is. is)
    (λ e. choice P text (codes "5") Fifth w _ e (λ is. is)
    (λ e. choice P text (codes "6") Last w _ e (λ is. is)
    (λ e. choice P text (codes "7") SecondLast w _ e (λ is. is)
    (λ e. choice P text (codes "8") ThirdLast w _ e (λ is. is)
    (λ e. choice P text (codes "9") FourthLast w _ e (λ is. is)
    (λ e. let bad : ⊥ = cc in absurd bad)))))))))

pub weeks_at-some : (text : Text) (w : Option Week) → weeks_at text ≡ Some w → text ≡ weeks_text w
unfolding weeks_at
weeks_at-some text w e =
    let P : Option Week → Type 0 = λ w. text ≡ weeks_text w in
    choice P text (codes "*") None w _ e (λ is. is)
    (λ e. let one = map-some Some (week_at text) w e in subst P one.2 (week_at-some text one.0 one.1))
