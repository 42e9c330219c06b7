-- The value of a list and of a schedule, by pairs and cases.
use Rattle.std.proofs.Common.{◌≡◌, ◌≢◌, ◌⊎◌, inl, inr, ⊎_elim, ℕ, ◌<◌, nat_le, nat_lt, ℤ, Bool, true, false}
use Rattle.std.proofs.Common.{List, Option, Some, None, is_some, option_and_then, refl, sym, ap, ◌∙◌, arith}
use Rattle.std.proofs.lemmas.Bool.{and_parts, cases_lt, false≢true}
use Rattle.std.proofs.lemmas.Bool.Decides.{nat_tests}
use Rattle.std.proofs.lemmas.Option.{none-some}
use Rattle.jiff_core.specs.declared.civil.date.Date.{Date}
use Rattle.sched.specs.declared.calendar.Calendar.{Calendar}
use Rattle.sched.specs.declared.day_list.TimeValue.{TimeValue}
use Rattle.sched.specs.declared.exception.Exception.{Exception}
use Rattle.sched.specs.declared.schedule.Schedule.{Schedule}
use Rattle.sched.specs.DayList.{gives_way_later, latest, list_value}
use Rattle.sched.specs.Exceptions.{exception_now, gives_way_to_lower, in_effect, speaks}
use Rattle.sched.specs.Schedule.{first_value, schedule_value, weekday_list}
use Rattle.sched.specs.ValueCases.{ByDefault, ByException, ByWeekday, IsHigher, IsLater, IsListValue, ListValueIsTheLatest, NonePasses, ValueIsByThreeCases}
use Rattle.sched.proofs.DayListLemmas.{settles_later}
use Rattle.sched.proofs.ExceptionLemmas.{settles_lower}
use Rattle.sched.proofs.FirstLemmas.{Orders, chosen-goes_first, chosen-none_passes, goes_first-chosen, none_passes-chosen}

at_most : (a b : ℕ) → nat_le a b ≡ true → (a < b) ⊎ (b ≡ a)
at_most a b e = ⊎_elim (λ below. inl below) (λ from. inr (grind (arith, nat_tests, from, e))) (cases_lt a b)

not_at_most : (a b : ℕ) → nat_le a b ≡ false → b < a
not_at_most a b e = grind (arith, nat_tests)

below_of : (a b : ℕ) → nat_lt a b ≡ true → a < b
below_of a b e = grind (arith, nat_tests)

not_below : (a b : ℕ) → nat_lt b a ≡ false → (a < b) ⊎ (a ≡ b)
not_below a b e = ⊎_elim (λ below. inl below) (λ from. inr (grind (arith, nat_tests, from, e))) (cases_lt a b)

-- two pairs can't each go before the other
not_both : (s t i k : ℕ) → (s < t) ⊎ ((t ≡ s) × (k < i)) → (t < s) ⊎ ((s ≡ t) × (i < k)) → ⊥
not_both s t i k one two = ⊎_elim
    (λ a. ⊎_elim (λ b. omega (arith, a, b)) (λ b. let e = b.0 in omega (arith, a, e)) two)
    (λ a. let e = a.0 in let h = a.1 in ⊎_elim (λ b. omega (arith, e, b)) (λ b. let k = b.1 in omega (arith, h, k)) two) one

pub later_orders : Orders gives_way_later IsLater
later_orders = record {
  settles = settles_later;
  gave = λ y x k i below gives. ⊎_elim (λ less. inl less) (λ same. inr (same, below)) (at_most y.time x.time gives);
  stood = λ x y i k below stays. inl (not_at_most x.time y.time stays);
  one_way = λ x y i k one two. not_both y.time x.time i k one two;
}

-- a pair that is less, with its equation turned
turned : (s t i k : ℕ) → (s < t) ⊎ ((s ≡ t) × (i < k)) → (s < t) ⊎ ((t ≡ s) × (i < k))
turned s t i k less = ⊎_elim (λ below. inl below) (λ same. inr (sym same.0, same.1)) less

higher_orders : Orders gives_way_to_lower IsHigher
higher_orders = record {
  settles = settles_lower;
  gave = λ y x k i below gives. inl (below_of x.event_priority y.event_priority gives);
  stood = λ x y i k below stays. ⊎_elim (λ less. inl less) (λ same. inr (same, below)) (not_below x.event_priority y.event_priority stays);
  one_way = λ x y i k one two.
      let m = x.event_priority in
      let n = y.event_priority in
      not_both m n k i (turned m n i k one) (turned n m k i two);
}

-- ---- a list

abbrev by_then : ℕ → TimeValue → Bool
by_then time x = nat_le x.time time

-- the value of an element, if there is one
abbrev value_of : Option TimeValue → Option ℤ
value_of o = option_and_then (λ (x : TimeValue). x.value) o

of_latest : (list : List TimeValue) (time : ℕ) (v : Option ℤ) (o : Option TimeValue) → latest list time ≡ o → value_of o ≡ v
    → IsListValue list time v
unfolding latest
of_latest list time v None none is = inr (chosen-none_passes (by_then time) gives_way_later IsLater later_orders list none, sym is)
of_latest list time v (Some x) found is = inl (x, chosen-goes_first (by_then time) gives_way_later IsLater later_orders list x found, is)

pub list_value-latest : ListValueIsTheLatest
unfolding latest
list_value-latest list time v = (
  of_latest list time v (latest list time) refl,
  ⊎_elim
      (λ one. ap value_of (goes_first-chosen (by_then time) gives_way_later IsLater later_orders list one.0 one.1) ∙ one.2)
      (λ none. ap value_of (none_passes-chosen (by_then time) gives_way_later IsLater later_orders list none.0) ∙ sym none.1),
)

-- ---- a schedule

some_first : (o other : Option ℤ) → is_some o ≡ true → first_value o other ≡ o
some_first None other e = absurd (false≢true e)
some_first (Some v) other e = refl

other_first : (o other : Option ℤ) → o ≢ None → first_value o other ≡ o
other_first None other e = absurd (e refl)
other_first (Some v) other e = refl

schedule_of : (schedule : Schedule) (calendars : List Calendar) (day : Date) (time : ℕ) (v : Option ℤ) (o : Option Exception) (w : Option ℤ)
    → exception_now calendars day time schedule.exceptions ≡ o → list_value (weekday_list schedule day) time ≡ w
    → first_value (option_and_then (λ (x : Exception). list_value x.times time) o) (first_value w schedule.default) ≡ v
    → ByException schedule calendars day time v ⊎ (ByWeekday schedule calendars day time v ⊎ ByDefault schedule calendars day time v)
unfolding exception_now
schedule_of schedule calendars day time v (Some x) w found weekday is =
    let first = chosen-goes_first (speaks calendars day time) gives_way_to_lower IsHigher higher_orders schedule.exceptions x found in
    let says : is_some (list_value x.times time) ≡ true = (and_parts (in_effect calendars day x) _ first.passes_it).1 in
    inl (x, first, sym (some_first (list_value x.times time) (first_value w schedule.default) says) ∙ is)
schedule_of schedule calendars day time v None (Some w) none weekday is =
    inr (inl (
      chosen-none_passes (speaks calendars day time) gives_way_to_lower IsHigher higher_orders schedule.exceptions none,
      weekday ∙ is,
      λ null. none-some w (sym (is ∙ null)),
    ))
schedule_of schedule calendars day time v None None none weekday is =
    inr (inr (
      chosen-none_passes (speaks calendars day time) gives_way_to_lower IsHigher higher_orders schedule.exceptions none,
      weekday,
      is,
    ))

by_exception : (schedule : Schedule) (calendars : List Calendar) (day : Date) (time : ℕ) (v : Option ℤ)
    → ByException schedule calendars day time v
    → schedule_value schedule calendars day time ≡ v
unfolding exception_now schedule_value
by_exception schedule calendars day time v by =
    let x = by.0 in
    let first = by.1 in
    let found = goes_first-chosen (speaks calendars day time) gives_way_to_lower IsHigher higher_orders schedule.exceptions x first in
    let says : is_some (list_value x.times time) ≡ true = (and_parts (in_effect calendars day x) _ first.passes_it).1 in
    let rest = first_value (list_value (weekday_list schedule day) time) schedule.default in
    ap (λ o. first_value (option_and_then (λ (y : Exception). list_value y.times time) o) rest) found
    ∙ some_first (list_value x.times time) rest says ∙ by.2

no_exception : (schedule : Schedule) (calendars : List Calendar) (day : Date) (time : ℕ)
    → NonePasses (speaks calendars day time) schedule.exceptions
    → schedule_value schedule calendars day time ≡ first_value (list_value (weekday_list schedule day) time) schedule.default
unfolding exception_now schedule_value
no_exception schedule calendars day time none =
    let rest = first_value (list_value (weekday_list schedule day) time) schedule.default in
    ap (λ o. first_value (option_and_then (λ (y : Exception). list_value y.times time) o) rest)
    (none_passes-chosen (speaks calendars day time) gives_way_to_lower IsHigher higher_orders schedule.exceptions none)

by_weekday : (schedule : Schedule) (calendars : List Calendar) (day : Date) (time : ℕ) (v : Option ℤ)
    → ByWeekday schedule calendars day time v
    → schedule_value schedule calendars day time ≡ v
by_weekday schedule calendars day time v by =
    no_exception schedule calendars day time by.0
    ∙ ap (λ o. first_value o schedule.default) by.1 ∙ other_first v schedule.default by.2

by_default : (schedule : Schedule) (calendars : List Calendar) (day : Date) (time : ℕ) (v : Option ℤ)
    → ByDefault schedule calendars day time v
    → schedule_value schedule calendars day time ≡ v
by_default schedule calendars day time v by =
    no_exception schedule calendars day time by.0 ∙ ap (λ o. first_value o schedule.default) by.1 ∙ by.2

pub schedule_value-cases : ValueIsByThreeCases
unfolding schedule_value
schedule_value-cases schedule calendars day time v = (
  schedule_of schedule calendars day time v (exception_now calendars day time schedule.exceptions)
      (list_value (weekday_list schedule day) time) refl refl,
  ⊎_elim (by_exception schedule calendars day time v)
      (⊎_elim (by_weekday schedule calendars day time v) (by_default schedule calendars day time v)),
)
