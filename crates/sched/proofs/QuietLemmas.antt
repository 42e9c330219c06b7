-- Where no list of the day names a hundredth, the value is that of the hundredth before.
use Rattle.std.proofs.Common.{◌≡◌, ℕ, suc, ◌==◌, nat_le, Bool, true, false, not, ◌||◌, List, [], ◌∷◌}
use Rattle.std.proofs.Common.{Option, Some, None, is_some, option_and_then, refl, sym, ap, ◌∙◌, arith, inl, inr}
use Rattle.std.specs.List.{list_all, flat_map}
use Rattle.std.specs.List.Sorted.{IsPermutation, IsSorted}
use Rattle.std.specs.Ordering.{nat_cmp}
use Rattle.std.proofs.lemmas.Bool.{and_from, and_parts, cases_Bool, not_from_false, not-true, or_parts}
use Rattle.std.proofs.lemmas.Bool.Decides.{nat_tests}
use Rattle.std.proofs.lemmas.List.Folds.{list_any-append}
use Rattle.std.proofs.lemmas.List.Sorted.{list_any-IsPermutation, IsNonDecreasingBy-from_sort}
use Rattle.jiff_core.specs.declared.civil.date.Date.{Date}
use Rattle.sched.specs.declared.calendar.Calendar.{Calendar}
use Rattle.sched.specs.declared.day_list.TimeValue.{TimeValue}
use Rattle.sched.specs.declared.exception.Exception.{Exception}
use Rattle.sched.specs.declared.schedule.Schedule.{Schedule}
use Rattle.sched.specs.DayList.{latest, list_value, gives_way_later}
use Rattle.sched.specs.Exceptions.{in_effect, speaks, exception_now, exceptional_value, gives_way_to_lower}
use Rattle.sched.specs.DayList.{times_of}
use Rattle.sched.specs.Named.{exception_times, named_times}
use Rattle.sched.specs.Schedule.{schedule_value, first_value, weekday_list}
use Rattle.sched.specs.Segments.{value_eq}
use Rattle.sched.proofs.ChosenLemmas.{chosen-agree, chosen-holds, holds_if}
use Rattle.sched.proofs.DayListLemmas.{settles_later}
use Rattle.sched.proofs.ExceptionLemmas.{settles_lower}
use Rattle.sched.proofs.SegmentLemmas.{is_among, Rises, same_values, value_eq-same}

apart_from : (x c : ℕ) → (x == suc c) ≡ false → nat_le x (suc c) ≡ nat_le x c
apart_from x c e = grind (arith, nat_tests)

-- each element of a list is apart from a hundredth that it doesn't name
abbrev apart : ℕ → TimeValue → Bool
apart c x = not (x.time == c)

all_apart : (list : List TimeValue) (c : ℕ) → is_among c (times_of list) ≡ false → list_all (apart c) list ≡ true
all_apart [] c none = refl
all_apart (x ∷ list) c none =
    and_from _ _ (not_from_false _ (or_parts (x.time == c) _ none).0) (all_apart list c (or_parts (x.time == c) _ none).1)

latest-quiet : (list : List TimeValue) (c : ℕ) → is_among (suc c) (times_of list) ≡ false → latest list (suc c) ≡ latest list c
unfolding latest
latest-quiet list c none =
    chosen-agree (λ x. nat_le x.time (suc c)) (λ x. nat_le x.time c) gives_way_later settles_later (apart (suc c))
    (λ x e. apart_from x.time c (not-true _ e)) list (all_apart list (suc c) none)

list_value-quiet : (list : List TimeValue) (c : ℕ) → is_among (suc c) (times_of list) ≡ false → list_value list (suc c) ≡ list_value list c
list_value-quiet list c none = ap (option_and_then (λ (x : TimeValue). x.value)) (latest-quiet list c none)

-- an exception in effect whose list doesn't name the hundredth
abbrev quiet_at : List Calendar → Date → ℕ → Exception → Bool
quiet_at calendars day c exception = not (is_among c (exception_times calendars day exception))

in_effect-quiet : (calendars : List Calendar) (day : Date) (c : ℕ) (exception : Exception) → in_effect calendars day exception ≡ true
    → quiet_at calendars day (suc c) exception ≡ true → list_value exception.times (suc c) ≡ list_value exception.times c
in_effect-quiet calendars day c exception effect quiet =
    let named : exception_times calendars day exception ≡ times_of exception.times = rw effect refl in
    list_value-quiet exception.times c (ap (is_among (suc c)) (sym named) ∙ not-true _ quiet)

speaks-quiet : (calendars : List Calendar) (day : Date) (c : ℕ) (exception : Exception)
    → quiet_at calendars day (suc c) exception ≡ true → speaks calendars day (suc c) exception ≡ speaks calendars day c exception
speaks-quiet calendars day c exception quiet = elim (cases_Bool (in_effect calendars day exception)) [
  | inl effect ↦ rw effect (ap is_some (in_effect-quiet calendars day c exception effect quiet))
  | inr idle ↦ rw idle refl
]

all_quiet : (calendars : List Calendar) (day : Date) (c : ℕ) (exceptions : List Exception)
    → is_among c (flat_map (exception_times calendars day) exceptions) ≡ false → list_all (quiet_at calendars day c) exceptions ≡ true
all_quiet calendars day c [] none = refl
all_quiet calendars day c (x ∷ xs) none =
    let parts =
    sym (list_any-append (λ t. t == c) (exception_times calendars day x) (flat_map (exception_times calendars day) xs)) ∙ none in
    and_from _ _ (not_from_false _ (or_parts (is_among c (exception_times calendars day x)) _ parts).0)
    (all_quiet calendars day c xs (or_parts (is_among c (exception_times calendars day x)) _ parts).1)

exception_now-quiet : (calendars : List Calendar) (day : Date) (c : ℕ) (exceptions : List Exception)
    → list_all (quiet_at calendars day (suc c)) exceptions ≡ true
    → exception_now calendars day (suc c) exceptions ≡ exception_now calendars day c exceptions
unfolding exception_now
exception_now-quiet calendars day c exceptions quiet =
    chosen-agree (speaks calendars day (suc c)) (speaks calendars day c) gives_way_to_lower settles_lower (quiet_at calendars day (suc c))
    (speaks-quiet calendars day c) exceptions quiet

-- the list of an exception has one value at both
abbrev says_the_same : ℕ → Exception → Bool
says_the_same c x = value_eq (list_value x.times (suc c)) (list_value x.times c)

-- the exception that counts says the same at both
same_said : (calendars : List Calendar) (day : Date) (c : ℕ) (exceptions : List Exception)
    → list_all (quiet_at calendars day (suc c)) exceptions ≡ true
    → holds_if (says_the_same c) (exception_now calendars day c exceptions) ≡ true
unfolding exception_now
same_said calendars day c exceptions quiet =
    chosen-holds (speaks calendars day c) gives_way_to_lower settles_lower (quiet_at calendars day (suc c)) (says_the_same c)
    (λ x quiet_x speaks_x.
    let same = in_effect-quiet calendars day c x (and_parts (in_effect calendars day x) _ speaks_x).0 quiet_x in
    rw same (value_eq-same (list_value x.times c))) exceptions quiet

same_value_of : (chosen : Option Exception) (c : ℕ) → holds_if (says_the_same c) chosen ≡ true
    → option_and_then (λ (x : Exception). list_value x.times (suc c)) chosen
    ≡ option_and_then (λ (x : Exception). list_value x.times c) chosen
same_value_of None c e = refl
same_value_of (Some x) c e = same_values _ _ e

exceptional-quiet : (calendars : List Calendar) (day : Date) (c : ℕ) (exceptions : List Exception)
    → list_all (quiet_at calendars day (suc c)) exceptions ≡ true
    → exceptional_value calendars day (suc c) exceptions ≡ exceptional_value calendars day c exceptions
exceptional-quiet calendars day c exceptions quiet =
    ap (option_and_then (λ (x : Exception). list_value x.times (suc c))) (exception_now-quiet calendars day c exceptions quiet)
    ∙ same_value_of (exception_now calendars day c exceptions) c (same_said calendars day c exceptions quiet)

pub schedule_value-quiet : (schedule : Schedule) (calendars : List Calendar) (day : Date) (c : ℕ)
    → is_among (suc c) (named_times schedule calendars day) ≡ false
    → schedule_value schedule calendars day (suc c) ≡ schedule_value schedule calendars day c
unfolding schedule_value
schedule_value-quiet schedule calendars day c none =
    let weekday = times_of (weekday_list schedule day) in
    let exceptions = flat_map (exception_times calendars day) schedule.exceptions in
    let parts : (is_among (suc c) weekday || is_among (suc c) exceptions) ≡ false =
    sym (list_any-append (λ t. t == suc c) weekday exceptions) ∙ (or_parts (0 == suc c) _ none).1 in
    let all = all_quiet calendars day (suc c) schedule.exceptions (or_parts (is_among (suc c) weekday) _ parts).1 in
    let first = exceptional-quiet calendars day c schedule.exceptions all in
    let second = list_value-quiet (weekday_list schedule day) c (or_parts (is_among (suc c) weekday) _ parts).0 in
    λ i. first_value (first i) (first_value (second i) schedule.default)

-- the times that are named, once sorted, rise through the day's values
pub Rises-sorted : (schedule : Schedule) (calendars : List Calendar) (day : Date) (times : List ℕ)
    → IsPermutation (named_times schedule calendars day) times → IsSorted nat_cmp times
    → Rises (λ c. schedule_value schedule calendars day c) times
Rises-sorted schedule calendars day times permuted sorted = record {
  midnight = sym (list_any-IsPermutation (λ t. t == 0) (named_times schedule calendars day) times permuted);
  quiet = λ c none.
      let named = list_any-IsPermutation (λ t. t == suc c) (named_times schedule calendars day) times permuted in
      schedule_value-quiet schedule calendars day c (named ∙ none);
  up = λ i j h within. IsNonDecreasingBy-from_sort (λ t. t) times sorted i j 0 h within;
}
