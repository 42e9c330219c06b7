-- The chosen element of a list is the one whose pair goes before that of each other one that passes.
use Rattle.std.proofs.Common.{◌≡◌, ℕ, zero, suc, ◌+◌, ◌-◌, ◌<◌, Bool, true, false, not, ◌||◌, List, [], ◌∷◌, ◌++◌, length}
use Rattle.std.proofs.Common.{Option, Some, None, slice_get, refl, sym, ap, ◌∙◌, subst, ⊎_elim, arith}
use Rattle.std.specs.List.{list_all}
use Rattle.std.proofs.lemmas.Bool.{and_parts, cases_eq, cases_lt, false≢true, not-true, or_cases}
use Rattle.std.proofs.lemmas.Option.{none-some, same_Some}
use Rattle.sched.specs.Chosen.{chosen}
use Rattle.sched.specs.ValueCases.{GoesFirst, NonePasses}
use Rattle.sched.proofs.ChosenLemmas.{AllFail, Best, IsBest, Settles, chosen-is_best, earlier, later}

module _ {A : Type 0} where
  -- where the elements of a list stand that is cut at one of them
  at_cut : (before : List A) (x : A) (after : List A) → slice_get (before ++ x ∷ after) (length before) ≡ Some x
  at_cut [] x after = refl
  at_cut (y ∷ before) x after = at_cut before x after

  at_before : (before rest : List A) (k : ℕ) → k < length before → slice_get (before ++ rest) k ≡ slice_get before k
  at_before [] rest k below = absurd (omega (arith, below))
  at_before (x ∷ before) rest zero below = refl
  at_before (x ∷ before) rest (suc k) below = at_before before rest k (omega (arith, below))

  at_after : (before : List A) (x : A) (after : List A) (k : ℕ)
      → slice_get (before ++ x ∷ after) (suc (length before + k)) ≡ slice_get after k
  at_after [] x after k = let start : 0 + k ≡ k = omega arith in ap (λ n. slice_get (x ∷ after) (suc n)) start
  at_after (y ∷ before) x after k =
      let next : suc (length before) + k ≡ suc (length before + k) = omega arith in
      ap (λ n. slice_get (before ++ x ∷ after) n) next ∙ at_after before x after k

  all_at : (test : A → Bool) (xs : List A) (y : A) (k : ℕ) → list_all test xs ≡ true → slice_get xs k ≡ Some y → test y ≡ true
  all_at test [] y k all at = absurd (none-some y at)
  all_at test (x ∷ xs) y zero all at = ap test (sym (same_Some x y at)) ∙ (and_parts (test x) (list_all test xs) all).0
  all_at test (x ∷ xs) y (suc k) all at = all_at test xs y k (and_parts (test x) (list_all test xs) all).1 at

-- an order of pairs of an element and its place, of which a list's one pass keeps the first
pub record Orders {A : Type 0} (gives_way : A → A → Bool) (Before : A → ℕ → A → ℕ → Type 0) : Type 0 where
  pub settles : Settles gives_way
  pub gave : (y x : A) (k i : ℕ) → k < i → gives_way y x ≡ true → Before x i y k
  pub stood : (x y : A) (i k : ℕ) → i < k → gives_way x y ≡ false → Before x i y k
  pub one_way : (x y : A) (i k : ℕ) → Before x i y k → Before y k x i → ⊥

module _ {A : Type 0} (passes : A → Bool) (gives_way : A → A → Bool) (Before : A → ℕ → A → ℕ → Type 0)
    (orders : Orders gives_way Before) where
  -- a test that is passed, or something else
  else_of : (y : A) (other : Bool) → passes y ≡ true → (not (passes y) || other) ≡ true → other ≡ true
  else_of y other passed e =
      ⊎_elim (λ fails. absurd (false≢true (sym (not-true (passes y) fails) ∙ passed))) (λ is. is) (or_cases (not (passes y)) other e)

  goes_first : (xs : List A) (x : A) → IsBest passes gives_way xs x → GoesFirst passes Before xs x
  goes_first xs x is = record {
    index = length is.before;
    stands = ap (λ s. slice_get s (length is.before)) is.split ∙ at_cut is.before x is.after;
    passes_it = is.passes_it;
    before_others = λ y k at passed other.
        let cut : slice_get (is.before ++ x ∷ is.after) k ≡ Some y = ap (λ s. slice_get s k) (sym is.split) ∙ at in
        ⊎_elim
        (λ below. orders.gave y x k (length is.before) below
        (else_of y _ passed (all_at (earlier passes gives_way x) is.before y k is.earlier_ones
        (sym (at_before is.before (x ∷ is.after) k below) ∙ cut))))
        (λ from.
        let past = k - suc (length is.before) in
        let place : k ≡ suc (length is.before + past) = omega (arith, from, other) in
        orders.stood x y (length is.before) k (omega (arith, from, other))
        (not-true _ (else_of y _ passed (all_at (later passes gives_way x) is.after y past is.later_ones
        (sym (ap (slice_get (is.before ++ x ∷ is.after)) place ∙ at_after is.before x is.after past) ∙ cut)))))
        (cases_lt k (length is.before));
  }

  none_passes : (xs : List A) → AllFail passes xs → NonePasses passes xs
  unfolding AllFail
  none_passes xs none = λ x k at passed. false≢true (sym (not-true (passes x) (all_at (λ y. not (passes y)) xs x k none at)) ∙ passed)

  first_is : (xs : List A) (best : Option A) (x : A) → Best passes gives_way xs best → GoesFirst passes Before xs x → best ≡ Some x
  unfolding Best
  first_is xs None x none first = absurd (none_passes xs none x first.index first.stands first.passes_it)
  first_is xs (Some best) x is first =
      let found = goes_first xs best is in
      ⊎_elim
      (λ same. ap Some (same_Some best x (sym found.stands ∙ ap (slice_get xs) same ∙ first.stands)))
      (λ apart. absurd (orders.one_way best x found.index first.index
      (found.before_others x first.index first.stands first.passes_it (λ e. apart (sym e)))
      (first.before_others best found.index found.stands found.passes_it apart)))
      (cases_eq found.index first.index)

  none_is : (xs : List A) (best : Option A) → Best passes gives_way xs best → NonePasses passes xs → best ≡ None
  unfolding Best
  none_is xs None is none = refl
  none_is xs (Some best) is none = let found = goes_first xs best is in absurd (none best found.index found.stands found.passes_it)

  -- the four ways between what is chosen and what goes first
  pub chosen-goes_first : (xs : List A) (x : A) → chosen passes gives_way xs ≡ Some x → GoesFirst passes Before xs x
  unfolding Best
  chosen-goes_first xs x e = goes_first xs x (subst (Best passes gives_way xs) e (chosen-is_best passes gives_way orders.settles xs))

  pub chosen-none_passes : (xs : List A) → chosen passes gives_way xs ≡ None → NonePasses passes xs
  unfolding Best
  chosen-none_passes xs e = none_passes xs (subst (Best passes gives_way xs) e (chosen-is_best passes gives_way orders.settles xs))

  pub goes_first-chosen : (xs : List A) (x : A) → GoesFirst passes Before xs x → chosen passes gives_way xs ≡ Some x
  goes_first-chosen xs x first = first_is xs (chosen passes gives_way xs) x (chosen-is_best passes gives_way orders.settles xs) first

  pub none_passes-chosen : (xs : List A) → NonePasses passes xs → chosen passes gives_way xs ≡ None
  none_passes-chosen xs none = none_is xs (chosen passes gives_way xs) (chosen-is_best passes gives_way orders.settles xs) none
