-- A row of places, seen as a finite map.
use Rattle.std.proofs.Common.{◌≡◌, ◌≢◌, ℕ, suc, zero, ◌+◌, ◌<◌, Bool, true, false, cond, ◌&&◌, List, [], ◌∷◌, Option}
use Rattle.std.proofs.Common.{Some, None, length, get_or, set, refl, sym, ap, ◌∙◌, arith, T, ℤ, inl, inr, replicate}
use Rattle.std.proofs.lemmas.Bool.Decides.{nat_tests}
use Rattle.std.proofs.lemmas.List.{get_or-set_same, get_or-set_other, get_or_past}
use Rattle.std.proofs.lemmas.Bool.{cases_eq, cases_order}
use Rattle.std.specs.Ordering.{nat_cmp, is_lt, eq_by_cmp}
use Rattle.std.specs.Cmp.{nat_cmp_total, ranks}
use Rattle.std.specs.FinMap.{from_sorted, get, entries, empty, same_map, nat_cmp-IsAntisymmetric, get-insert}
use Rattle.std.specs.FinMap.{get-remove, get-empty, get-from_sorted, get-entries, entries_sorted}
use Rattle.std.specs.FinMap.Entries.{find, is_sorted, below_all}
use Rattle.points.specs.Numbered.{numbered}
use Rattle.points.specs.PriorityArray.{HasSixteenPlaces, Places, put, first_of, present_of}

pub tied_same : (q : ℕ) → eq_by_cmp nat_cmp q q ≡ true
tied_same q = grind (arith, nat_tests)

pub tied_apart : (q n : ℕ) → q ≢ n → eq_by_cmp nat_cmp q n ≡ false
tied_apart q n apart = grind (arith, nat_tests)

below : (q n : ℕ) → q < n → is_lt (nat_cmp q n) ≡ true
below q n h = grind (arith, nat_tests)

passed : {A : Type 0} (b : Bool) (x y : A) → b ≡ false → cond b x y ≡ y
passed b x y e = rw e

taken : {A : Type 0} (b : Bool) (x y : A) → b ≡ true → cond b x y ≡ x
taken b x y e = rw e

later : (n k : ℕ) → n + suc k ≡ (n + 1) + k
later n k = omega arith

both : (a b : Bool) → a ≡ true → T b → T (a && b)
both a b e h = rw e h

each : (a b : Bool) → T a → T b → T (a && b)
each true b p q = q
each false b p q = absurd p

module _ {A : Type 0} where
  -- no number below the first is there
  find-numbered_below : (row : List (Option A)) (n q : ℕ) → q < n → find nat_cmp q (numbered n row) ≡ None
  find-numbered_below [] n q h = refl
  find-numbered_below (None ∷ row) n q h = find-numbered_below row (n + 1) q (omega arith)
  find-numbered_below (Some value ∷ row) n q h =
      let apart : q ≢ n = omega arith in
      passed _ _ _ (tied_apart q n apart) ∙ find-numbered_below row (n + 1) q (omega arith)

  -- each place has its value at its number
  pub find-numbered : (row : List (Option A)) (n k : ℕ) → find nat_cmp (n + k) (numbered n row) ≡ get_or row k None
  find-numbered [] n k = refl
  find-numbered (None ∷ row) n zero = find-numbered_below row (n + 1) (n + 0) (omega arith)
  find-numbered (None ∷ row) n (suc k) = rw (later n k) (find-numbered row (n + 1) k)
  find-numbered (Some value ∷ row) n zero = let e : n + 0 ≡ n = omega arith in rw e (taken _ _ _ (tied_same n))
  find-numbered (Some value ∷ row) n (suc k) =
      let apart : n + suc k ≢ n = omega arith in
      passed _ _ _ (tied_apart (n + suc k) n apart)
      ∙ ap (λ q. find nat_cmp q (numbered (n + 1) row)) (later n k) ∙ find-numbered row (n + 1) k

  below_all-numbered : (row : List (Option A)) (n q : ℕ) → q < n → T (below_all nat_cmp q (numbered n row))
  below_all-numbered [] n q h = tt
  below_all-numbered (None ∷ row) n q h = below_all-numbered row (n + 1) q (omega arith)
  below_all-numbered (Some value ∷ row) n q h =
      both _ _ (below q n h) (below_all-numbered row (n + 1) q (omega arith))

  -- the numbers rise
  pub is_sorted-numbered : (row : List (Option A)) (n : ℕ) → T (is_sorted nat_cmp (numbered n row))
  is_sorted-numbered [] n = tt
  is_sorted-numbered (None ∷ row) n = is_sorted-numbered row (n + 1)
  is_sorted-numbered (Some value ∷ row) n =
      each _ _ (below_all-numbered row (n + 1) n (omega arith)) (is_sorted-numbered row (n + 1))

-- the map of a row of places has each value at its number, from 1
pub get-numbered : (row : List (Option ℤ)) (k : ℕ) → get (from_sorted {R = nat_cmp} (numbered 1 row)) (suc k) ≡ get_or row k None
get-numbered row k = get-from_sorted nat_cmp (numbered 1 row) (suc k) (is_sorted-numbered row 1)
    ∙ ap (λ q. find nat_cmp q (numbered 1 row)) (let e : suc k ≡ 1 + k = omega arith in e) ∙ find-numbered row 1 k

pub get-numbered_0 : (row : List (Option ℤ)) → get (from_sorted {R = nat_cmp} (numbered 1 row)) 0 ≡ None
get-numbered_0 row = get-from_sorted nat_cmp (numbered 1 row) 0 (is_sorted-numbered row 1) ∙ find-numbered_below row 1 0 (omega arith)

get-put : (places : Places) (priority q : ℕ) (value : Option ℤ)
    → get (put places priority value) q ≡ cond (eq_by_cmp nat_cmp q priority) value (get places q)
get-put places priority q None = get-remove nat_cmp_total places priority q
get-put places priority q (Some value) = get-insert nat_cmp_total places priority value q

same_at : (row : List (Option ℤ)) (i : ℕ) (value : Option ℤ) (k : ℕ) → i < length row
    → get_or (set row i value) k None ≡ cond (eq_by_cmp nat_cmp (suc k) (i + 1)) value (get_or row k None)
same_at row i value k h =
    elim (cases_eq k i) [
      | inl same ↦
          let here : suc i ≡ i + 1 = omega arith in
          rw (same, get_or-set_same row i value None h) (sym (taken _ _ _ (ap (λ q. eq_by_cmp nat_cmp q (i + 1)) here ∙ tied_same (i + 1))))
      | inr other ↦
          let apart : suc k ≢ i + 1 = omega arith in
          rw (get_or-set_other row i k value None other) (sym (passed _ _ _ (tied_apart (suc k) (i + 1) apart)))
    ]

-- a row with a value written is the map with it put
pub numbered-set : (row : List (Option ℤ)) (i : ℕ) (value : Option ℤ) → i < length row
    → from_sorted {R = nat_cmp} (numbered 1 (set row i value)) ≡ put (from_sorted {R = nat_cmp} (numbered 1 row)) (i + 1) value
numbered-set row i value h = same_map nat_cmp_total nat_cmp-IsAntisymmetric _ _ agree
  where
    agree : (q : ℕ)
        → get (from_sorted {R = nat_cmp} (numbered 1 (set row i value))) q
        ≡ get (put (from_sorted {R = nat_cmp} (numbered 1 row)) (i + 1) value) q
    agree zero = let apart : zero ≢ i + 1 = omega arith in
        get-numbered_0 (set row i value)
        ∙ sym (get-put _ (i + 1) zero value ∙ passed _ _ _ (tied_apart zero (i + 1) apart) ∙ get-numbered_0 row)
    agree (suc k) = get-numbered (set row i value) k ∙ same_at row i value k h
        ∙ sym (get-put _ (i + 1) (suc k) value ∙ ap (cond (eq_by_cmp nat_cmp (suc k) (i + 1)) value) (get-numbered row k))

-- no value stands above a row's length
find-numbered_past : (row : List (Option ℤ)) (q : ℕ) → length row < q → get (from_sorted {R = nat_cmp} (numbered 1 row)) q ≡ None
find-numbered_past row zero h = get-numbered_0 row
find-numbered_past row (suc k) h = get-numbered row k ∙ get_or_past row k None (omega arith)

pub sixteen_places : (row : List (Option ℤ)) → length row ≡ 16 → HasSixteenPlaces (from_sorted {R = nat_cmp} (numbered 1 row))
sixteen_places row e = record { above = get-numbered_0 row; below = λ q h. find-numbered_past row q (omega arith) }

-- a row of n NULLs is the empty map
pub numbered-replicate : (m n : ℕ) → numbered {A = ℤ} m (replicate n None) ≡ []
numbered-replicate m zero = refl
numbered-replicate m (suc n) = numbered-replicate (m + 1) n

pub from_sorted-none : from_sorted {X = ℤ} {R = nat_cmp} [] ≡ empty
from_sorted-none = same_map nat_cmp_total nat_cmp-IsAntisymmetric _ _ (λ q. get-from_sorted nat_cmp [] q tt ∙ sym (get-empty nat_cmp q))

first_below : (a b : Bool) → T (a && b) → T a
first_below true b p = tt
first_below false b p = p

second_sorted : (a b : Bool) → T (a && b) → T b
second_sorted true b p = p
second_sorted false b p = absurd p

below_is : (q n : ℕ) → T (is_lt (nat_cmp q n)) → q < n
below_is q n h = grind (arith, nat_tests, ranks q n)

-- a key below all of a list is not in it
find-below_all : (es : List (ℕ × ℤ)) (q : ℕ) → T (below_all nat_cmp q es) → find nat_cmp q es ≡ None
find-below_all [] q h = refl
find-below_all (e ∷ es) q h =
    let less : q < e.0 = below_is q e.0 (first_below _ _ h) in
    let apart : q ≢ e.0 = omega arith in
    passed _ _ _ (tied_apart q e.0 apart) ∙ find-below_all es q (second_sorted _ _ h)

below_all-less : (es : List (ℕ × ℤ)) (q n : ℕ) → q < n → T (below_all nat_cmp n es) → T (below_all nat_cmp q es)
below_all-less [] q n less h = tt
below_all-less (e ∷ es) q n less h =
    let next : n < e.0 = below_is n e.0 (first_below _ _ h) in
    both _ _ (below q e.0 (omega arith)) (below_all-less es q n less (second_sorted _ _ h))

not_none : (v : ℤ) → Some v ≡ None → ⊥
not_none v e = cc

some_is : (v w : ℤ) → Some v ≡ Some w → v ≡ w
some_is v w e = cc

-- the least key of a sorted list is its first
first_of-least : (es : List (ℕ × ℤ)) (q : ℕ) (v d : ℤ) → T (is_sorted nat_cmp es) → find nat_cmp q es ≡ Some v
    → ((j : ℕ) → j < q → find nat_cmp j es ≡ None) → first_of d es ≡ (v, q)
first_of-least [] q v d sorted found none = absurd (not_none v (sym found))
first_of-least (e ∷ es) q v d sorted found none =
    elim (cases_order q e.0) [
      | inl same ↦
          let value : e.1 ≡ v = some_is e.1 v (sym (taken _ _ _ (ap (λ n. eq_by_cmp nat_cmp q n) (sym same) ∙ tied_same q)) ∙ found) in
          λ i. (value i, sym same i)
      | inr apart ↦ elim apart [
        | inl less ↦
            let unequal : q ≢ e.0 = omega arith in
            let missing =
            passed _ _ _ (tied_apart q e.0 unequal) ∙ find-below_all es q (below_all-less es q e.0 less (first_below _ _ sorted)) in
            absurd (not_none v (sym found ∙ missing))
        | inr more ↦ absurd (not_none e.1 (sym (taken _ _ _ (tied_same e.0)) ∙ none e.0 more))
      ]
    ]

-- the present value is the value at the least priority that has one
pub present_of-least : (places : Places) (q : ℕ) (v d : ℤ) → get places q ≡ Some v → ((j : ℕ) → j < q → get places j ≡ None)
    → (v, q) ≡ present_of places d
unfolding present_of
present_of-least places q v d found none =
    sym (first_of-least (entries places) q v d (entries_sorted places) (sym (get-entries places q) ∙ found)
    (λ j h. sym (get-entries places j) ∙ none j h))

first_of-empty : (es : List (ℕ × ℤ)) (d : ℤ) → ((j : ℕ) → find nat_cmp j es ≡ None) → first_of d es ≡ (d, 0)
first_of-empty [] d none = refl
first_of-empty (e ∷ es) d none = absurd (not_none e.1 (sym (taken _ _ _ (tied_same e.0)) ∙ none e.0))

pub present_of-none : (places : Places) (d : ℤ) → ((j : ℕ) → get places j ≡ None) → (d, 0) ≡ present_of places d
unfolding present_of
present_of-none places d none = sym (first_of-empty (entries places) d (λ j. sym (get-entries places j) ∙ none j))
