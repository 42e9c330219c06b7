-- Numbers that rise are those of a range that are among them.
use Rattle.std.proofs.Common.{◌≡◌, ◌∙◌, ◌==◌, ℕ, zero, suc, ◌+◌, ◌<◌, ◌≤◌, Bool, true, false, cond, List, [], ◌∷◌, get_or, refl, sym, ap, subst, arith, inl, inr}
use Rattle.std.specs.List.{All, Contains, dedup, filter, range_with_len}
use Rattle.std.specs.List.Sorted.{IsPermutation, IsSorted, IsStrictlyIncreasing}
use Rattle.std.specs.Ordering.{nat_cmp}
use Rattle.std.proofs.Math.Dec.{eqb}
use Rattle.std.proofs.lemmas.Bool.{cases_Bool, cases_eq, false≢true}
use Rattle.std.proofs.lemmas.Bool.Decides.{nat_tests}
use Rattle.std.proofs.lemmas.List.Elements.{All-cons, All-head, All-tail, All-weaker}
use Rattle.std.proofs.lemmas.List.Filters.{All-dedup}
use Rattle.std.proofs.lemmas.List.Kept.{AllPairs-from_increasing, Contains-dedup_nat, Contains-from_dedup}
use Rattle.std.proofs.lemmas.List.Sorted.{All-permutation, Contains-permutation, IsPermutation-sym}
use Rattle.std.proofs.lemmas.Map.Keys.{IsStrictlyIncreasing-dedup}
use Rattle.sched.specs.ByTime.{is_named}
use Rattle.cli_days.specs.TimeValues.{in_order}

same_number : (x y : ℕ) → (x == y) ≡ true → x ≡ y
same_number x y e = grind (arith, nat_tests)

other_number : (x y : ℕ) → x < y → (x == y) ≡ false
other_number x y h = grind (arith, nat_tests)

-- ---- a range

-- a number before a range is none of it
past : (t : ℕ) (ts : List ℕ) (n a : ℕ) → t < a
    → filter (is_named (t ∷ ts)) (range_with_len a n) ≡ filter (is_named ts) (range_with_len a n)
past t ts zero a h = refl
past t ts (suc n) a h =
    let rest = past t ts n (a + 1) (omega (arith, h)) in
    rw (other_number t a h) (ap (λ l. cond (is_named ts a) (a ∷ l) l) rest)

later : (a : ℕ) (ts : List ℕ) → All (λ t. a < t) ts → is_named ts a ≡ false
later a [] all = refl
later a (t ∷ ts) all =
    let first : a < t = All-head (λ u. a < u) t ts all in
    rw (apart t first) (later a ts (All-tail (λ u. a < u) t ts all))
  where
    apart : (t : ℕ) → a < t → (t == a) ≡ false
    apart t h = grind (arith, nat_tests)

rest_rises : (t : ℕ) (ts : List ℕ) → IsStrictlyIncreasing (t ∷ ts) → IsStrictlyIncreasing ts
rest_rises t ts rises = λ k within.
    let next : suc k + 1 ≡ suc (k + 1) = omega arith in
    subst (λ j. get_or ts k 0 < get_or (t ∷ ts) j 0) next (rises (suc k) (omega (arith, within)))

rest_later : (t : ℕ) (ts : List ℕ) → IsStrictlyIncreasing (t ∷ ts) → All (λ u. t < u) ts
rest_later t ts rises = λ k d within. AllPairs-from_increasing (t ∷ ts) rises 0 (suc k) d (omega arith) (omega (arith, within))

-- the range begins with the first of the numbers
begins : (a n t : ℕ) (ts : List ℕ) → t ≡ a → filter (is_named ts) (range_with_len (a + 1) n) ≡ ts
    → filter (is_named (t ∷ ts)) (range_with_len a (suc n)) ≡ t ∷ ts
begins a n t ts same rest =
    rw (is_here t a same) (λ i. sym same i ∷ (past t ts n (a + 1) (omega (arith, same)) ∙ rest) i)
  where
    is_here : (t a : ℕ) → t ≡ a → (t == a) ≡ true
    is_here t a e = grind (arith, nat_tests)

-- or before it
begins_before : (a n t : ℕ) (ts : List ℕ) → All (λ u. a < u) (t ∷ ts) → filter (is_named (t ∷ ts)) (range_with_len (a + 1) n) ≡ t ∷ ts
    → filter (is_named (t ∷ ts)) (range_with_len a (suc n)) ≡ t ∷ ts
begins_before a n t ts above rest = rw (later a (t ∷ ts) above) rest

above_first : (a t : ℕ) (ts : List ℕ) → a < t → All (λ u. t < u) ts → All (λ u. a < u) (t ∷ ts)
above_first a t ts h tail = All-cons (λ u. a < u) t ts h (All-weaker (λ u. t < u) (λ u. a < u) (λ u lt. omega (arith, lt, h)) ts tail)

from_next : (a : ℕ) (ts : List ℕ) → All (λ u. a < u) ts → All (λ u. a + 1 ≤ u) ts
from_next a ts = All-weaker (λ u. a < u) (λ u. a + 1 ≤ u) (λ u lt. omega (arith, lt)) ts

pub rising-range : (b n a : ℕ) (ts : List ℕ) → a + n ≡ b → IsStrictlyIncreasing ts → All (λ t. a ≤ t) ts → All (λ t. t < b) ts
    → filter (is_named ts) (range_with_len a n) ≡ ts
rising-range b zero a [] ends rises from below = refl
rising-range b zero a (t ∷ ts) ends rises from below =
    let least = All-head (λ u. a ≤ u) t ts from in
    let most = All-head (λ u. u < b) t ts below in
    absurd (omega (arith, ends, least, most))
rising-range b (suc n) a [] ends rises from below =
    rising-range b n (a + 1) [] (omega (arith, ends)) rises (λ k d within. absurd (omega (arith, within))) below
rising-range b (suc n) a (t ∷ ts) ends rises from below = elim (cases_eq t a) [
  | inl same ↦ begins a n t ts same (rising-range b n (a + 1) ts (omega (arith, ends)) (rest_rises t ts rises)
      (from_next a ts (subst (λ x. All (λ u. x < u) ts) same (rest_later t ts rises))) (All-tail (λ u. u < b) t ts below))
  | inr apart ↦
      let least = All-head (λ u. a ≤ u) t ts from in
      let above = above_first a t ts (omega (arith, apart, least)) (rest_later t ts rises) in
      begins_before a n t ts above (rising-range b n (a + 1) (t ∷ ts) (omega (arith, ends)) rises (from_next a (t ∷ ts) above) below)
]

-- ---- the same numbers

contained : (ts : List ℕ) (c : ℕ) → is_named ts c ≡ true → Contains ts c
contained [] c e = absurd (false≢true e)
contained (t ∷ ts) c e = elim (cases_Bool (t == c)) [
  | inl here ↦ (0, omega arith, same_number t c here)
  | inr other ↦ let rest = contained ts c (rw other at e) in (suc rest.0, omega (arith, rest.1), rest.2)
]

named : (ts : List ℕ) (c : ℕ) → Contains ts c → is_named ts c ≡ true
named [] c (k, within, is) = absurd (omega (arith, within))
named (t ∷ ts) c (zero, within, is) = rw (same t c is) refl
  where
    same : (t c : ℕ) → t ≡ c → (t == c) ≡ true
    same t c e = grind (arith, nat_tests)
named (t ∷ ts) c (suc k, within, is) = elim (cases_Bool (t == c)) [
  | inl here ↦ rw here refl
  | inr other ↦ rw other (named ts c (k, omega (arith, within), is))
]

both_ways : (a b : Bool) → (a ≡ true → b ≡ true) → (b ≡ true → a ≡ true) → a ≡ b
both_ways true b f g = sym (f refl)
both_ways false true f g = g refl
both_ways false false f g = refl

filter-same : (p q : ℕ → Bool) (xs : List ℕ) → ((x : ℕ) → p x ≡ q x) → filter p xs ≡ filter q xs
filter-same p q [] same = refl
filter-same p q (x ∷ xs) same = (λ i. cond (same x i) (x ∷ filter-same p q xs same i) (filter-same p q xs same i))

-- what is left of numbers that were sorted, each once
pub sorted-in_order : (bound : ℕ) (numbers sorted left : List ℕ) → All (λ t. t < bound) numbers → IsPermutation numbers sorted
    → IsSorted nat_cmp sorted → left ≡ dedup eqb sorted → left ≡ in_order bound numbers
unfolding in_order
sorted-in_order bound numbers sorted left below permuted rises once =
    let all = All-dedup eqb (λ t. t < bound) sorted (All-permutation (λ t. t < bound) numbers sorted permuted below) in
    let same : (c : ℕ) → is_named (dedup eqb sorted) c ≡ is_named numbers c = λ c. both_ways _ _
    (λ e. named numbers c (Contains-permutation sorted numbers c (IsPermutation-sym numbers sorted permuted)
    (Contains-from_dedup eqb sorted c (contained (dedup eqb sorted) c e))))
    (λ e. named (dedup eqb sorted) c (Contains-dedup_nat sorted c (Contains-permutation numbers sorted c permuted (contained numbers c e)))) in
    once ∙ (sym (rising-range bound bound 0 (dedup eqb sorted) (omega arith) (IsStrictlyIncreasing-dedup sorted rises)
    (λ k d within. omega arith) all) ∙ filter-same _ _ (range_with_len 0 bound) same)
