-- An exception speaks at one of its times, where it speaks at some time of a day.
use Rattle.std.proofs.Common.{◌≡◌, ◌∙◌, ◌==◌, ℕ, zero, suc, ◌+◌, ◌<◌, ◌≤◌, nat_le, Bool, true, false, ◌||◌, cond, List, [], ◌∷◌, Some, is_some, slice_get, refl, sym, ap, arith, inl, inr, ⊎_elim}
use Rattle.std.specs.List.{filter, list_any, range_with_len}
use Rattle.std.proofs.lemmas.Bool.{and_from, and_parts, cases_Bool, cases_eq, false≢true}
use Rattle.std.proofs.lemmas.Bool.Decides.{nat_tests}
use Rattle.sched.specs.declared.day_list.TimeValue.{TimeValue}
use Rattle.sched.specs.declared.time.TheConstants.{HUNDREDTHS_A_DAY}
use Rattle.sched.specs.ByTime.{is_named}
use Rattle.sched.specs.DayList.{list_value, times_of}
use Rattle.sched.specs.Exceptions.{in_effect}
use Rattle.sched.specs.ValueCases.{GoesFirst, IsLater}
use Rattle.sched.proofs.ValueLemmas.{list_value-latest}
use Rattle.cli_days.specs.Speaking.{SpeaksAtSomeTime}
use Rattle.cli_days.specs.TimeValues.{has_value, in_order, named_times}

-- ---- one of some numbers below a bound

record Found (test among : ℕ → Bool) (from to : ℕ) : Type 0 where
  number : ℕ
  least : from ≤ number
  most : number < to
  is_among : among number ≡ true
  passes : test number ≡ true

wider : (test among : ℕ → Bool) (from to : ℕ) → Found test among (from + 1) to → Found test among from to
wider test among from to found = record {
  number = found.number;
  least = let h = found.least in omega (arith, h);
  most = found.most;
  is_among = found.is_among;
  passes = found.passes;
}

any-found : (test among : ℕ → Bool) (to n from : ℕ) → from + n ≡ to → list_any test (filter among (range_with_len from n)) ≡ true
    → Found test among from to
any-found test among to zero from ends any = absurd (false≢true any)
any-found test among to (suc n) from ends any = elim (cases_Bool (among from)) [
  | inl inside ↦ elim (cases_Bool (test from)) [
    | inl here ↦ record { number = from; least = omega arith; most = omega (arith, ends); is_among = inside; passes = here }
    | inr apart ↦ wider test among from to (any-found test among to n (from + 1) (omega (arith, ends)) (rw apart at rw inside at any))
  ]
  | inr outside ↦ wider test among from to (any-found test among to n (from + 1) (omega (arith, ends)) (rw outside at any))
]

or-right : (a b : Bool) → b ≡ true → (a || b) ≡ true
or-right true b e = refl
or-right false b e = e

takes : (test : ℕ → Bool) (inside : Bool) (x : ℕ) (xs : List ℕ) → inside ≡ true → test x ≡ true
    → list_any test (cond inside (x ∷ xs) xs) ≡ true
takes test true x xs inside passes = ap (λ b. b || list_any test xs) passes
takes test false x xs inside passes = absurd (false≢true inside)

keeps : (test : ℕ → Bool) (inside : Bool) (x : ℕ) (xs : List ℕ) → list_any test xs ≡ true → list_any test (cond inside (x ∷ xs) xs) ≡ true
keeps test true x xs any = or-right (test x) (list_any test xs) any
keeps test false x xs any = any

found-any : (test among : ℕ → Bool) (to n from : ℕ) → from + n ≡ to → Found test among from to
    → list_any test (filter among (range_with_len from n)) ≡ true
found-any test among to zero from ends found = let h = found.least in let k = found.most in absurd (omega (arith, ends, h, k))
found-any test among to (suc n) from ends found = elim (cases_eq from found.number) [
  | inl same ↦ takes test (among from) from (filter among (range_with_len (from + 1) n))
      (ap among same ∙ found.is_among) (ap test same ∙ found.passes)
  | inr apart ↦ keeps test (among from) from (filter among (range_with_len (from + 1) n))
      (found-any test among to n (from + 1) (omega (arith, ends)) (record {
        number = found.number;
        least = let h = found.least in omega (arith, apart, h);
        most = found.most;
        is_among = found.is_among;
        passes = found.passes;
      }))
]

in_order-found : (test : ℕ → Bool) (bound : ℕ) (numbers : List ℕ) → list_any test (in_order bound numbers) ≡ true
    → Found test (is_named numbers) 0 bound
unfolding in_order
in_order-found test bound numbers any = any-found test (is_named numbers) bound bound 0 (omega arith) any

found-in_order : (test : ℕ → Bool) (bound : ℕ) (numbers : List ℕ) → Found test (is_named numbers) 0 bound
    → list_any test (in_order bound numbers) ≡ true
unfolding in_order
found-in_order test bound numbers found = found-any test (is_named numbers) bound bound 0 (omega arith) found

-- ---- a value of a list

record Named (list : List TimeValue) (time : ℕ) : Type 0 where
  at : ℕ
  by_then : at ≤ time
  among : is_named (times_of list) at ≡ true
  has : is_some (list_value list at) ≡ true

same_time : (x y : ℕ) → x ≡ y → (x == y) ≡ true
same_time x y e = grind (arith, nat_tests)

named-at : (list : List TimeValue) (k : ℕ) (x : TimeValue) → slice_get list k ≡ Some x → is_named (times_of list) x.time ≡ true
named-at [] k x stands = absurd cc
named-at (y ∷ ys) zero x stands =
    let same : y ≡ x = cc in ap (λ b. b || is_named (times_of ys) x.time) (same_time y.time x.time (ap (λ (z : TimeValue). z.time) same))
named-at (y ∷ ys) (suc k) x stands = or-right (y.time == x.time) (is_named (times_of ys) x.time) (named-at ys k x stands)

le-le : (a b c : ℕ) → nat_le a b ≡ true → nat_le b c ≡ true → nat_le a c ≡ true
le-le a b c h k = grind (arith, nat_tests)

le-same : (a : ℕ) → nat_le a a ≡ true
le-same a = grind (arith, nat_tests)

le-of : (a b : ℕ) → nat_le a b ≡ true → a ≤ b
le-of a b h = grind (arith, nat_tests)

first-here : (list : List TimeValue) (time : ℕ) (x : TimeValue) → GoesFirst (λ (y : TimeValue). nat_le y.time time) IsLater list x
    → GoesFirst (λ (y : TimeValue). nat_le y.time x.time) IsLater list x
first-here list time x goes = record {
  index = goes.index;
  stands = goes.stands;
  passes_it = le-same x.time;
  before_others = λ y k at passes other. goes.before_others y k at (le-le y.time x.time time passes goes.passes_it) other;
}

-- the element that gives a value gives it from its own time on
value-named : (list : List TimeValue) (time : ℕ) → is_some (list_value list time) ≡ true → Named list time
value-named list time some = ⊎_elim
    (λ by. record {
      at = by.0.time;
      by_then = le-of by.0.time time by.1.passes_it;
      among = named-at list by.1.index by.0 by.1.stands;
      has = ap is_some ((list_value-latest list by.0.time by.0.value).1 (inl (by.0, first-here list time by.0 by.1, refl)) ∙ by.2) ∙ some;
    })
    (λ by. absurd (false≢true (sym (ap is_some by.1) ∙ some)))
    ((list_value-latest list time (list_value list time)).0 refl)

-- ---- an exception

pub speaks_on-some_time : SpeaksAtSomeTime
speaks_on-some_time calendars day exception =
    let list = exception.times in
    let test : ℕ → Bool = λ time. is_some (list_value list time) in (
      (λ both.
          let parts = and_parts (in_effect calendars day exception) (has_value list (named_times list)) both in
          let found = in_order-found test HUNDREDTHS_A_DAY (times_of list) parts.1 in
          (found.number, found.most, and_from _ _ parts.0 found.passes)),
      (λ some.
          let parts = and_parts (in_effect calendars day exception) (test some.0) some.2 in
          let named = value-named list some.0 parts.1 in
          and_from _ _ parts.0 (found-in_order test HUNDREDTHS_A_DAY (times_of list) (record {
            number = named.at;
            least = omega arith;
            most = let h = named.by_then in let k = some.1 in omega (arith, h, k);
            is_among = named.among;
            passes = named.has;
          }))),
    )
