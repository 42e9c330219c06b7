-- The named times next to a time, by the elements of a list.
use Rattle.std.proofs.Common.{◌≡◌, ◌⊎◌, ℕ, zero, suc, ◌<◌, ◌≤◌, ◌==◌, nat_le, true, false, List, ◌∷◌, []}
use Rattle.std.proofs.Common.{length, get_or, slice_get, Option, Some, None, option_map, refl, sym, ap, ◌∙◌, arith, inl, inr, ⊎_elim}
use Rattle.std.specs.List.Sorted.{IsNonDecreasingBy, IsPartitionPoint}
use Rattle.std.proofs.lemmas.Bool.{cases_eq, cases_lt, false≢true, or_cases, or_left, or_right}
use Rattle.std.proofs.lemmas.Bool.Decides.{nat_tests}
use Rattle.std.proofs.lemmas.Option.{get_or_from_slice_get, none-some}
use Rattle.sched.specs.declared.day_list.TimeValue.{TimeValue}
use Rattle.sched.specs.ByTime.{is_named}
use Rattle.sched.specs.DayList.{gives_way_later, latest, times_of}
use Rattle.sched.specs.TimesAround.{IsLastTimeBy, IsNamed, IsNextTimeAfter}
use Rattle.sched.specs.ValueCases.{IsLater}
use Rattle.sched.proofs.FirstLemmas.{chosen-goes_first, chosen-none_passes}
use Rattle.sched.proofs.RisingLemmas.{place_within}
use Rattle.sched.proofs.ValueLemmas.{later_orders}

same_time : (x t : ℕ) → x ≡ t → (x == t) ≡ true
same_time x t e = grind (arith, nat_tests)

time_of : (x t : ℕ) → (x == t) ≡ true → x ≡ t
time_of x t e = grind (arith, nat_tests)

-- where an element stands that has a named time
record Place (xs : List TimeValue) (t : ℕ) : Type 0 where
  at : ℕ
  item : TimeValue
  stands : slice_get xs at ≡ Some item
  its_time : item.time ≡ t

place_of : (xs : List TimeValue) (t : ℕ) → IsNamed (times_of xs) t → Place xs t
place_of [] t named = absurd (false≢true named)
place_of (x ∷ xs) t named = ⊎_elim
    (λ here. record { at = 0; item = x; stands = refl; its_time = time_of x.time t here })
    (λ later. let rest = place_of xs t later in
    record { at = suc rest.at; item = rest.item; stands = rest.stands; its_time = rest.its_time })
    (or_cases (x.time == t) _ named)

named_at : (xs : List TimeValue) (k : ℕ) (y : TimeValue) → slice_get xs k ≡ Some y → IsNamed (times_of xs) y.time
named_at [] k y at = absurd (none-some y at)
named_at (x ∷ xs) zero y at =
    or_left _ _ (same_time x.time y.time (ap (λ (z : TimeValue). z.time) (get_or_from_slice_get (x ∷ xs) 0 y y at)))
named_at (x ∷ xs) (suc k) y at = or_right _ _ (named_at xs k y at)

up_to : (a b : ℕ) → nat_le a b ≡ true → a ≤ b
up_to a b h = grind (arith, nat_tests)

passes_up_to : (a b : ℕ) → a ≤ b → nat_le a b ≡ true
passes_up_to a b h = grind (arith, nat_tests)

after : (a b : ℕ) → nat_le a b ≡ false → b < a
after a b h = grind (arith, nat_tests)

later_or_same : (s t k i : ℕ) → (s < t) ⊎ ((t ≡ s) × (k < i)) → s ≤ t
later_or_same s t k i is = ⊎_elim (λ below. omega (arith, below)) (λ same. let e = same.0 in omega (arith, e)) is

-- ---- the latest up to a time

module _ (xs : List TimeValue) (time : ℕ) where
  last_time : (o : Option TimeValue) → latest xs time ≡ o → IsLastTimeBy (times_of xs) time (option_map (λ (x : TimeValue). x.time) o)
  unfolding latest
  last_time None none = λ t named.
      let place = place_of xs t named in
      let fails = chosen-none_passes (λ x. nat_le x.time time) gives_way_later IsLater later_orders xs none place.item place.at place.stands in
      ⊎_elim (λ before. before)
      (λ from. absurd (fails (passes_up_to place.item.time time (let e = place.its_time in omega (arith, e, from))))) (cases_lt time t)
  last_time (Some x) found =
      let first = chosen-goes_first (λ y. nat_le y.time time) gives_way_later IsLater later_orders xs x found in (
        named_at xs first.index x first.stands,
        up_to x.time time first.passes_it,
        λ t named within.
            let place = place_of xs t named in
            let e = place.its_time in
            let passed = passes_up_to place.item.time time (omega (arith, e, within)) in
            ⊎_elim
            (λ same. let here = ap (λ (z : TimeValue). z.time)
            (sym (get_or_from_slice_get xs first.index x x first.stands) ∙ ap (λ n. get_or xs n x) (sym same)
            ∙ get_or_from_slice_get xs place.at place.item x place.stands) in omega (arith, here, e))
            (λ other. let later = later_or_same place.item.time x.time place.at first.index
            (first.before_others place.item place.at place.stands passed other) in omega (arith, later, e))
            (cases_eq place.at first.index),
      )

  pub IsLastTimeBy-latest : (o : Option TimeValue) → o ≡ latest xs time
      → IsLastTimeBy (times_of xs) time (option_map (λ (x : TimeValue). x.time) o)
  IsLastTimeBy-latest o is = last_time o (sym is)

-- ---- the next after a time

module _ (xs : List TimeValue) (time end : ℕ) (up : IsNonDecreasingBy (λ (x : TimeValue). x.time) xs)
    (cut : IsPartitionPoint (λ (x : TimeValue). nat_le x.time time ≡ true) (λ (x : TimeValue). nat_le x.time time ≡ false) xs end) where
  -- a named time stands before the cut and is up to the time, or stands from there on and is after it
  side : (t : ℕ) (place : Place xs t) → ((place.at < end) × (t ≤ time)) ⊎ ((end ≤ place.at) × (time < t))
  side t place =
      let read = ap (λ (z : TimeValue). z.time) (get_or_from_slice_get xs place.at place.item place.item place.stands) in
      let e = place.its_time in
      ⊎_elim
      (λ before. let h = up_to _ time (cut.0 place.at place.item (omega arith) before) in inl (before, omega (arith, h, read, e)))
      (λ from. let h = after _ time (cut.1 place.at place.item (omega (arith, from)) (place_within xs place.at place.item place.stands)) in
      inr (omega (arith, from), omega (arith, h, read, e)))
      (cases_lt place.at end)

  pub IsNextTimeAfter-none : length xs ≤ end → IsNextTimeAfter (times_of xs) time None
  IsNextTimeAfter-none past = λ t named.
      let place = place_of xs t named in
      let within = place_within xs place.at place.item place.stands in
      ⊎_elim (λ before. before.1) (λ from. let h = from.0 in absurd (omega (arith, h, within, past))) (side t place)

  pub IsNextTimeAfter-some : (x : TimeValue) → slice_get xs end ≡ Some x → IsNextTimeAfter (times_of xs) time (Some x.time)
  IsNextTimeAfter-some x at = (
    named_at xs end x at,
    let read = ap (λ (z : TimeValue). z.time) (get_or_from_slice_get xs end x x at) in
        let h = after _ time (cut.1 end x (omega arith) (place_within xs end x at)) in
        omega (arith, h, read),
    λ t named past.
        let place = place_of xs t named in
        ⊎_elim (λ before. let h = before.1 in absurd (omega (arith, h, past)))
        (λ from.
        let rises = up end place.at x from.0 (place_within xs place.at place.item place.stands) in
        let mine = ap (λ (z : TimeValue). z.time) (get_or_from_slice_get xs end x x at) in
        let its = ap (λ (z : TimeValue). z.time) (get_or_from_slice_get xs place.at place.item x place.stands) in
        let e = place.its_time in
        omega (arith, rises, mine, its, e))
        (side t place),
  )
