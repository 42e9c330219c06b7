-- A day is known by its parts.
use Rattle.std.proofs.Common.{◌≡◌, ◌↔◌, ℕ, Bool, true, false, pos, refl, sym, ap, ◌∙◌, arith}
use Rattle.std.proofs.Common.{Option, Some, None, option_map, IsSome, IfSome}
use Rattle.std.specs.Cmp.{first_so}
use Rattle.std.proofs.lemmas.Bool.{false≢true}
use Rattle.std.proofs.lemmas.Bool.Decides.{nat_tests}
use Rattle.std.proofs.Props.{props}
use Rattle.std.specs.Int.{IsInRange}
use mathlib.Core.HLevel.{is_prop→PathP}
use Rattle.jiff_core.specs.Calendar.{IsYear, days_in_month}
use Rattle.jiff_core.specs.Date.{IsYmd, epoch_day}
use Rattle.jiff_core.specs.declared.civil.date.Date.{Date}
use Rattle.jiff_core.proofs.DateLemmas.{epoch_day_injective, epoch_day_same}
use Rattle.jiff_core.proofs.SignedLemmas.{signed_arith}
use Rattle.dates.specs.Day.{day_of, day_with, passed, is_day-year, is_day-month, is_day-day, is_between-true, IsDay, is_day}

pub IsDay-is_day : (y m d : ℕ) → is_day y m d ≡ true → IsDay (pos y) m d
IsDay-is_day y m d e =
    let year = is_between-true 1900 2154 y (first_so _ _ e) in
    let month = is_day-month y m d e in
    let day = is_day-day y m d e in (
      (omega (arith, signed_arith), omega (arith, signed_arith)),
      (
        is_day-year y m d e,
        (omega (arith, signed_arith), omega (arith, signed_arith)),
        (omega (arith, signed_arith), omega (arith, signed_arith)),
      ),
    )

pub is_day-IsDay : (y m d : ℕ) → IsDay (pos y) m d → is_day y m d ≡ true
is_day-IsDay y m d h = grind (arith, signed_arith, nat_tests)

-- `jiff` has it too, in a crate that stands on all of its time zones.
pub same_date : (a b : Date) → epoch_day a ≡ epoch_day b → a ≡ b
same_date a b e =
    let p = epoch_day_injective a b e in
    λ i. record {
      year = p.0 i;
      month = p.1 i;
      day = p.2 i;
      year_in = is_prop→PathP (λ j. IsYear (p.0 j)) (λ j. hlevel props) a.year_in b.year_in i;
      month_in = is_prop→PathP (λ j. IsInRange 1 12 (p.1 j)) (λ j. hlevel props) a.month_in b.month_in i;
      day_in = is_prop→PathP (λ j. IsInRange 1 (days_in_month (p.0 j) (p.1 j)) (p.2 j)) (λ j. hlevel props) a.day_in b.day_in i;
    }

pub same_parts : (a b : Date) → a.year ≡ b.year → a.month ≡ b.month → a.day ≡ b.day → a ≡ b
same_parts a b year month day = same_date a b (epoch_day_same a b year month day)

passed-some : (test : Bool) → test ≡ true → (ok : test ≡ true) × (passed test ≡ Some ok)
passed-some true e = (refl, refl)
passed-some false e = absurd (false≢true e)

passed-none : (test : Bool) → test ≡ false → passed test ≡ None
passed-none true e = absurd (false≢true (sym e))
passed-none false e = refl

pub day_of-some : (y m d : ℕ) → is_day y m d ≡ true → (ok : is_day y m d ≡ true) × (day_of y m d ≡ Some (day_with y m d ok))
unfolding day_of
day_of-some y m d e =
    let some = passed-some (is_day y m d) e in
    (some.0, ap (option_map (day_with y m d)) some.1)

pub day_of-none : (y m d : ℕ) → is_day y m d ≡ false → day_of y m d ≡ None
unfolding day_of
day_of-none y m d e = ap (option_map (day_with y m d)) (passed-none (is_day y m d) e)

-- what `Day::new` answers
pub day_of-new : (y m d : ℕ) (r : Option Date) → (IsSome r ↔ IsDay (pos y) m d) → IfSome r (IsYmd (pos y) (pos m) (pos d))
    → r ≡ day_of y m d
day_of-new y m d None exists value = by_test (is_day y m d) refl
  where
    by_test : (test : Bool) → is_day y m d ≡ test → None ≡ day_of y m d
    by_test true e = absurd (false≢true (exists.1 (IsDay-is_day y m d e)))
    by_test false e = sym (day_of-none y m d e)
day_of-new y m d (Some x) exists value =
    let some = day_of-some y m d (is_day-IsDay y m d (exists.0 refl)) in
    let same : x ≡ day_with y m d some.0 = same_parts x _ value.0 (omega (arith, signed_arith)) (omega (arith, signed_arith)) in
    ap Some same ∙ sym some.1
