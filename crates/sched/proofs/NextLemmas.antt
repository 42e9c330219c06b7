-- The first segment after a time begins at the first later time with another value.
use Rattle.std.proofs.Common.{◌≡◌, ◌≢◌, ⊎_elim, ℕ, zero, suc, ◌<◌, ◌≤◌, ℤ, nat_lt, Bool, true, false, cond, not}
use Rattle.std.proofs.Common.{[], ◌∷◌, Option, Some, None, option_map, refl, sym, ap, subst, ◌∙◌, arith}
use Rattle.std.specs.List.{find}
use Rattle.std.specs.Option.{option_or}
use Rattle.std.proofs.lemmas.Bool.{cases_lt, false≢true}
use Rattle.std.proofs.lemmas.Bool.Decides.{nat_tests}
use Rattle.std.proofs.lemmas.List.Folds.{find-append}
use Rattle.sched.specs.declared.day_list.TimeValue.{TimeValue}
use Rattle.sched.specs.declared.time.TheConstants.{HUNDREDTHS_A_DAY}
use Rattle.sched.specs.Schedule.{schedule_value}
use Rattle.sched.specs.Segments.{begins_at, segment_at, segments_below, segments_of, value_eq}
use Rattle.sched.proofs.SegmentLemmas.{same_values, value_eq-same}
use Rattle.sched.specs.declared.changes.NextChange.{NextChange}
use Rattle.sched.specs.NextChange.{first_after, next_change}
use Rattle.sched.specs.NextLaws.{IsNextOrNone, NextChangeIsTheFirst, Stands}
use Rattle.sched.specs.Sources.{source_of}

-- the first segment after a time, of those that begin below an end
record IsFirst (value : ℕ → Option ℤ) (time end : ℕ) (segment : TimeValue) : Type 0 where
  is_later : time < segment.time
  is_below : segment.time < end
  has_value : segment.value ≡ value segment.time
  is_other : segment.value ≢ value time
  is_first : Stands value time segment.time

abbrev IsFirstOrNone : (ℕ → Option ℤ) → ℕ → ℕ → Option TimeValue → Type 0
IsFirstOrNone value time end None = Stands value time end
IsFirstOrNone value time end (Some segment) = IsFirst value time end segment

module _ (value : ℕ → Option ℤ) (time : ℕ) where
  abbrev is_after : TimeValue → Bool
  is_after segment = nat_lt time segment.time

  abbrev at : ℕ → TimeValue
  at n = record { time = n; value = value n }

  -- where no segment begins, the value stands a hundredth longer
  stands-on : (n : ℕ) → begins_at value n ≡ false → Stands value time n → Stands value time (suc n)
  stands-on zero begins stands = absurd (false≢true (sym begins))
  stands-on (suc m) begins stands = λ c from below.
      let alike = not_false (value_eq (value m) (value (suc m))) begins in
      let same : value (suc m) ≡ value m = sym (same_values (value m) (value (suc m)) alike) in
      ⊎_elim
      (λ earlier. stands c from earlier)
      (λ last.
      let here : c ≡ suc m = omega (arith, below, last) in
      ⊎_elim
      (λ before. ap value here ∙ same ∙ stands m (omega (arith, before)) (omega arith))
      (λ not_before. let e : c ≡ time = omega (arith, here, from, not_before) in ap value e)
      (cases_lt time (suc m)))
      (cases_lt c (suc m))
    where
      not_false : (b : Bool) → not b ≡ false → b ≡ true
      not_false true e = refl
      not_false false e = absurd (false≢true (sym e))

  -- where one begins later than the time, its value is another
  is_other-at : (n : ℕ) → time < n → begins_at value n ≡ true → Stands value time n → value n ≢ value time
  is_other-at zero later begins stands = absurd (omega (arith, later))
  is_other-at (suc m) later begins stands = λ same.
      let before : value m ≡ value time = stands m (omega (arith, later)) (omega arith) in
      let alike : value_eq (value m) (value (suc m)) ≡ true =
      ap (value_eq (value m)) (same ∙ sym before) ∙ value_eq-same (value m) in
      absurd (false≢true (sym (ap not alike) ∙ begins))

  begun : (n : ℕ) (after : Bool) → nat_lt time n ≡ after → begins_at value n ≡ true → Stands value time n
      → IsFirstOrNone value time (suc n) (cond after (Some (at n)) None)
  begun n true after begins stands =
      let later : time < n = grind (arith, nat_tests) in
      record {
        is_later = later;
        is_below = omega arith;
        has_value = refl;
        is_other = is_other-at n later begins stands;
        is_first = stands;
      }
  begun n false after begins stands = λ c from below.
      let up : n ≤ time = grind (arith, nat_tests) in
      let e : c ≡ time = omega (arith, from, below, up) in ap value e

  one_more : (n : ℕ) (so_far : Option TimeValue) (begins : Bool) → begins_at value n ≡ begins → IsFirstOrNone value time n so_far
      → IsFirstOrNone value time (suc n) (option_or so_far (find is_after (cond begins (at n ∷ []) [])))
  one_more n (Some segment) begins is found = record {
    is_later = found.is_later;
    is_below = let h = found.is_below in omega (arith, h);
    has_value = found.has_value;
    is_other = found.is_other;
    is_first = found.is_first;
  }
  one_more n None true is stands = begun n (nat_lt time n) refl is stands
  one_more n None false is stands = stands-on n is stands

  first-below : (n : ℕ) → IsFirstOrNone value time n (find is_after (segments_below value n))
  first-below zero = λ c from below. absurd (omega (arith, below))
  first-below (suc n) = subst (IsFirstOrNone value time (suc n)) (sym (find-append is_after (segments_below value n) (segment_at value n)))
      (one_more n (find is_after (segments_below value n)) (begins_at value n) refl (first-below n))

pub next-is_first : NextChangeIsTheFirst
unfolding next_change segments_of
next-is_first schedule calendars day time =
    by (first_after (segments_of value) time) (first-below value time HUNDREDTHS_A_DAY)
  where
    value : ℕ → Option ℤ
    value = λ c. schedule_value schedule calendars day c

    change : TimeValue → NextChange
    change segment = record { time = segment.time; value = segment.value; source = source_of schedule calendars day segment.time }

    by : (segment : Option TimeValue) → IsFirstOrNone value time HUNDREDTHS_A_DAY segment
        → IsNextOrNone value time (option_map change segment)
    by None stands = stands
    by (Some segment) first = record {
      is_later = first.is_later;
      is_of_day = first.is_below;
      has_value = first.has_value;
      is_other = first.is_other;
      is_first = first.is_first;
    }
