-- From one time that a list names to the next its value stands.
use Rattle.std.proofs.Common.{◌≡◌, ℕ, suc, zero, nat_le, Bool, true, List, [], ◌∷◌, Option, Some, None, is_none, slice_get, refl, sym, ap, ◌∙◌, inl, inr, arith}
use Rattle.std.specs.List.{list_all}
use Rattle.std.specs.Option.{option_map_or}
use Rattle.std.proofs.lemmas.Option.{none-some}
use Rattle.std.proofs.lemmas.Bool.{and_from, and_parts, false≢true}
use Rattle.std.proofs.lemmas.Bool.Decides.{nat_tests}
use Rattle.sched.specs.DayList.{list_value}
use Rattle.sched.specs.ValueCases.{GoesFirst, IsLater}
use Rattle.sched.specs.declared.day_list.TimeValue.{TimeValue}
use Rattle.sched.proofs.ValueLemmas.{list_value-latest}
use Rattle.building_hints.specs.NullLists.{NullAtEachTime, is_null_all_day}

is_none-true : {A : Type 0} (o : Option A) → is_none o ≡ true → o ≡ None
is_none-true None e = refl
is_none-true (Some x) e = absurd (false≢true e)

all-each : {A : Type 0} (test : A → Bool) (xs : List A) → ((x : A) → test x ≡ true) → list_all test xs ≡ true
all-each test [] each = refl
all-each test (x ∷ xs) each = and_from _ _ (each x) (all-each test xs each)

all-at : {A : Type 0} (test : A → Bool) (xs : List A) (k : ℕ) (x : A) → slice_get xs k ≡ Some x → list_all test xs ≡ true → test x ≡ true
all-at test [] k x e all = absurd (none-some x e)
all-at test (y ∷ ys) zero x e all = sym (ap (λ o. option_map_or test o true) e) ∙ (and_parts _ _ all).0
all-at test (y ∷ ys) (suc k) x e all = all-at test ys k x e (and_parts _ _ all).1

by_then : ℕ → TimeValue → Bool
by_then time y = nat_le y.time time

no_later : (y x time : ℕ) → nat_le x time ≡ true → nat_le y x ≡ true → nat_le y time ≡ true
no_later y x time a b = grind (arith, nat_tests)

-- the latest element at a time is the latest at its own time
at_own_time : (list : List TimeValue) (time : ℕ) (x : TimeValue) → GoesFirst (λ y. nat_le y.time time) IsLater list x
    → list_value list x.time ≡ x.value
at_own_time list time x first = (list_value-latest list x.time x.value).1 (inl (
  x,
  record {
    index = first.index;
    stands = first.stands;
    passes_it = self x.time;
    before_others = λ y k stands by other. first.before_others y k stands (no_later y.time x.time time first.passes_it by) other;
  },
  refl,
))
  where
    self : (n : ℕ) → nat_le n n ≡ true
    self n = grind (arith, nat_tests)

pub null_at_each_time : NullAtEachTime
unfolding is_null_all_day
null_at_each_time list = (to, λ null. all-each (λ it. is_none (list_value list it.time)) list (λ it. rw (null it.time) refl))
  where
    to : list_all (λ it. is_none (list_value list it.time)) list ≡ true → (time : ℕ) → list_value list time ≡ None
    to all time = elim ((list_value-latest list time (list_value list time)).0 refl) [
      | inl it ↦
          let null = all-at (λ it. is_none (list_value list it.time)) list it.1.index it.0 it.1.stands all in
          sym it.2 ∙ sym (at_own_time list time it.0 it.1) ∙ is_none-true (list_value list it.0.time) null
      | inr none ↦ none.1
    ]
