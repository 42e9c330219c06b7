-- The index of the exception that is heard, and the value that its source has.
use Rattle.std.proofs.Common.{◌≡◌, ◌⊎◌, inl, inr, ⊎_elim, ℕ, zero, suc, ◌<◌, ◌==◌, nat_lt, ℤ, Bool, true, false, cond, List, [], ◌∷◌, length}
use Rattle.std.proofs.Common.{Option, Some, None, is_some, option_and_then, option_map, slice_get, refl, sym, ap, ◌∙◌, arith}
use Rattle.std.specs.List.{find, position, position_or_len}
use Rattle.std.proofs.lemmas.Bool.{and_from, and_parts, cases_Bool, cases_lt, eq-eqb, false≢true}
use Rattle.std.proofs.lemmas.Bool.Decides.{nat_tests}
use Rattle.std.proofs.lemmas.List.Folds.{find_at}
use Rattle.std.proofs.lemmas.Option.{none-some, same_Some, slice_get_past}
use Rattle.jiff_core.specs.declared.civil.date.Date.{Date}
use Rattle.sched.specs.declared.calendar.Calendar.{Calendar}
use Rattle.sched.specs.declared.exception.Exception.{Exception}
use Rattle.sched.specs.declared.schedule.Schedule.{Schedule}
use Rattle.sched.specs.DayList.{list_value}
use Rattle.sched.specs.Exceptions.{exception_now, gives_way_to_lower, in_effect, speaks}
use Rattle.sched.specs.Schedule.{first_value, schedule_value, weekday_list}
use Rattle.sched.specs.ValueCases.{IsHigher}
use Rattle.sched.proofs.ExceptionLemmas.{settles_lower}
use Rattle.sched.proofs.FirstLemmas.{Orders, chosen-goes_first}
use Rattle.sched.specs.declared.source.Source.{Source}
use Rattle.sched.specs.declared.source.Source.TheVariants.{Exception as by_exception, Weekly, Default}
use Rattle.sched.specs.Sources.{index_now, source_of, source_or, speaks_at}
use Rattle.sched.specs.SourceLaws.{IndexIsOfTheException, SourceHasTheValue, value_by}

-- ---- the order of exceptions

below_of : (a b : ℕ) → nat_lt a b ≡ true → a < b
below_of a b e = grind (arith, nat_tests)

not_below : (a b : ℕ) → nat_lt b a ≡ false → (a < b) ⊎ (a ≡ b)
not_below a b e = ⊎_elim (λ below. inl below) (λ from. inr (grind (arith, nat_tests, from, e))) (cases_lt a b)

not_both : (s t i k : ℕ) → (s < t) ⊎ ((s ≡ t) × (i < k)) → (t < s) ⊎ ((t ≡ s) × (k < i)) → ⊥
not_both s t i k one two = ⊎_elim
    (λ a. ⊎_elim (λ b. omega (arith, a, b)) (λ b. let e = b.0 in omega (arith, a, e)) two)
    (λ a. let e = a.0 in let h = a.1 in ⊎_elim (λ b. omega (arith, e, b)) (λ b. let k = b.1 in omega (arith, h, k)) two) one

higher_orders : Orders gives_way_to_lower IsHigher
higher_orders = record {
  settles = settles_lower;
  gave = λ y x k i below gives. inl (below_of x.event_priority y.event_priority gives);
  stood = λ x y i k below stays. ⊎_elim (λ less. inl less) (λ same. inr (same, below)) (not_below x.event_priority y.event_priority stays);
  one_way = λ x y i k one two. not_both x.event_priority y.event_priority i k one two;
}

-- ---- the first that passes

slice_get-position : {A : Type 0} (p : A → Bool) (xs : List A) → option_and_then (λ i. slice_get xs i) (position p xs) ≡ find p xs
slice_get-position p xs = by (nat_lt (position_or_len p xs) (length xs)) refl
  where
    by : (within : Bool) → nat_lt (position_or_len p xs) (length xs) ≡ within
        → option_and_then (λ i. slice_get xs i) (position p xs) ≡ find p xs
    by true e = rw e (sym (find_at p xs))
    by false e = rw e (sym (find_at p xs ∙ slice_get_past xs (position_or_len p xs) (grind (arith, nat_tests, e))))

find-first : {A : Type 0} (p : A → Bool) (xs : List A) (x : A) (i : ℕ) → slice_get xs i ≡ Some x → p x ≡ true
    → ((y : A) (k : ℕ) → k < i → slice_get xs k ≡ Some y → p y ≡ false) → find p xs ≡ Some x
find-first p [] x i stands passes before = absurd (none-some x stands)
find-first p (z ∷ zs) x zero stands passes before = rw (ap p (same_Some z x stands) ∙ passes) stands
find-first p (z ∷ zs) x (suc i) stands passes before =
    rw (before z zero (omega arith) refl) (find-first p zs x i stands passes (λ y k below at. before y (suc k) (omega (arith, below)) at))

same_number : (a b : ℕ) → (a == b) ≡ true → a ≡ b
same_number a b e = grind (arith, nat_tests)

-- the exception that is chosen is the first that speaks at its EventPriority
found-first : (calendars : List Calendar) (day : Date) (time : ℕ) (xs : List Exception) (x : Exception)
    → exception_now calendars day time xs ≡ Some x → find (speaks_at calendars day time x.event_priority) xs ≡ Some x
unfolding exception_now
found-first calendars day time xs x e =
    let first = chosen-goes_first (speaks calendars day time) gives_way_to_lower IsHigher higher_orders xs x e in
    let p = speaks_at calendars day time x.event_priority in
    find-first p xs x first.index first.stands
    (and_from _ _ first.passes_it (eq-eqb x.event_priority x.event_priority refl))
    (λ y k below at. ⊎_elim
    (λ passes.
    let parts = and_parts _ _ passes in
    let same = same_number y.event_priority x.event_priority parts.1 in
    absurd (⊎_elim (λ less. omega (arith, less, same)) (λ tied. let past = tied.1 in omega (arith, past, below))
    (first.before_others y k at parts.0 (λ here. omega (arith, here, below)))))
    (λ fails. fails) (cases_Bool (p y)))

pub index-is : IndexIsOfTheException
index-is calendars day time xs = by (exception_now calendars day time xs) refl
  where
    by : (found : Option Exception) → exception_now calendars day time xs ≡ found
        → option_and_then (λ i. slice_get xs i) (index_now calendars day time xs) ≡ exception_now calendars day time xs
    by None e = rw e refl
    by (Some x) e =
        rw e (slice_get-position (speaks_at calendars day time x.event_priority) xs ∙ found-first calendars day time xs x e)

-- what is chosen has a value
found-speaks : (calendars : List Calendar) (day : Date) (time : ℕ) (xs : List Exception) (x : Exception)
    → exception_now calendars day time xs ≡ Some x → is_some (list_value x.times time) ≡ true
unfolding exception_now
found-speaks calendars day time xs x e =
    let first = chosen-goes_first (speaks calendars day time) gives_way_to_lower IsHigher higher_orders xs x e in
    (and_parts (in_effect calendars day x) _ first.passes_it).1

-- ---- the value

some_first : (o other : Option ℤ) → is_some o ≡ true → o ≡ first_value o other
some_first None other e = absurd (false≢true e)
some_first (Some v) other e = refl

weekly_value : (s : Schedule) (day : Date) (time : ℕ)
    → value_by s time (cond (is_some (list_value (weekday_list s day) time)) (Weekly day) Default)
    ≡ first_value (list_value (weekday_list s day) time) s.default
weekly_value s day time = by (list_value (weekday_list s day) time) refl
  where
    by : (value : Option ℤ) → list_value (weekday_list s day) time ≡ value
        → value_by s time (cond (is_some (list_value (weekday_list s day) time)) (Weekly day) Default)
        ≡ first_value (list_value (weekday_list s day) time) s.default
    by None e = rw e refl
    by (Some v) e = rw e e

-- the source at an index, or of the weekday's list and the default
abbrev at_index : Schedule → Date → ℕ → Option ℕ → Source
at_index s day time index =
    source_or (option_and_then (λ i. option_map (λ (x : Exception). by_exception i x.period) (slice_get s.exceptions i)) index)
    (cond (is_some (list_value (weekday_list s day) time)) (Weekly day) Default)

abbrev value_at : Schedule → Date → ℕ → Option Exception → Option ℤ
value_at s day time found = first_value (option_and_then (λ (x : Exception). list_value x.times time) found)
    (first_value (list_value (weekday_list s day) time) s.default)

at_found : (s : Schedule) (day : Date) (time : ℕ) (i : ℕ) (at found : Option Exception) → slice_get s.exceptions i ≡ at → at ≡ found
    → ((x : Exception) → found ≡ Some x → is_some (list_value x.times time) ≡ true)
    → value_by s time (at_index s day time (Some i)) ≡ value_at s day time found
at_found s day time i None found e same says = rw e (weekly_value s day time ∙ ap (value_at s day time) same)
at_found s day time i (Some x) found e same says =
    rw e (ap (option_and_then (λ (y : Exception). list_value y.times time)) e
    ∙ (some_first (list_value x.times time) (first_value (list_value (weekday_list s day) time) s.default) (says x (sym same))
    ∙ ap (value_at s day time) same))

sourced : (s : Schedule) (day : Date) (time : ℕ) (index : Option ℕ) (found : Option Exception)
    → option_and_then (λ i. slice_get s.exceptions i) index ≡ found
    → ((x : Exception) → found ≡ Some x → is_some (list_value x.times time) ≡ true)
    → value_by s time (at_index s day time index) ≡ value_at s day time found
sourced s day time None found same says = weekly_value s day time ∙ ap (value_at s day time) same
sourced s day time (Some i) found same says = at_found s day time i (slice_get s.exceptions i) found refl same says

pub source-has_value : SourceHasTheValue
unfolding source_of schedule_value
source-has_value s calendars day time =
    sourced s day time (index_now calendars day time s.exceptions) (exception_now calendars day time s.exceptions)
    (index-is calendars day time s.exceptions) (λ x e. found-speaks calendars day time s.exceptions x e)
