-- One pass that keeps the best so far finds the chosen element.
use Rattle.std.proofs.Common.{◌≡◌, Bool, true, false, not, ◌&&◌, ◌||◌, if◌then◌else◌, List, [], ◌∷◌, ◌++◌, append_assoc}
use Rattle.std.proofs.Common.{Option, Some, None, refl, sym, ap, ◌∙◌, subst, inl, inr, ⊎_elim}
use Rattle.std.specs.List.{list_all}
use Rattle.std.proofs.lemmas.Bool.{and_from, and_left, and_parts, cases_Bool, false≢true, not_from_false, not-true, or_cases, or_left, or_right}
use Rattle.std.proofs.lemmas.List.{append-nil}
use Rattle.std.proofs.lemmas.List.Folds.{list_all-append}
use Rattle.sched.specs.Chosen.{is_chosen, chosen_from, chosen}

module _ {A : Type 0} where
  list_all-push : (test : A → Bool) (xs : List A) (x : A) → list_all test xs ≡ true → test x ≡ true → list_all test (xs ++ x ∷ []) ≡ true
  list_all-push test xs x all here = list_all-append test xs (x ∷ []) ∙ and_from _ _ all (and_from _ _ here refl)

  -- one test follows from another
  list_all-follows : (one two : A → Bool) (xs : List A) → ((x : A) → one x ≡ true → two x ≡ true) → list_all one xs ≡ true
      → list_all two xs ≡ true
  list_all-follows one two [] follows all = refl
  list_all-follows one two (x ∷ xs) follows all =
      and_from _ _ (follows x (and_parts _ _ all).0) (list_all-follows one two xs follows (and_parts _ _ all).1)

  -- what one pass keeps of the best so far and the next element
  abbrev pub kept : (A → Bool) → (A → A → Bool) → Option A → A → Option A
  kept passes gives_way None x = if passes x then Some x else None
  kept passes gives_way (Some best) x = if passes x && gives_way best x then Some x else Some best

  -- the best of a list, in one pass
  abbrev pub best_from : (A → Bool) → (A → A → Bool) → Option A → List A → Option A
  best_from passes gives_way best [] = best
  best_from passes gives_way best (x ∷ xs) = best_from passes gives_way (kept passes gives_way best x) xs

-- an order of positions: the later wins, or the earlier does, and in either case one best is left
pub record Settles {A : Type 0} (gives_way : A → A → Bool) : Type 0 where
  pub onward : (q b z : A) → gives_way q b ≡ true → gives_way b z ≡ true → gives_way q z ≡ true
  pub past : (b q z : A) → gives_way b q ≡ false → gives_way b z ≡ true → gives_way q z ≡ true

abbrev pub earlier : {A : Type 0} → (A → Bool) → (A → A → Bool) → A → A → Bool
earlier passes gives_way x q = not (passes q) || gives_way q x

abbrev pub later : {A : Type 0} → (A → Bool) → (A → A → Bool) → A → A → Bool
later passes gives_way x q = not (passes q) || not (gives_way x q)

-- the best of a list seen so far: where it stands, and why
pub record IsBest {A : Type 0} (passes : A → Bool) (gives_way : A → A → Bool) (seen : List A) (best : A) : Type 0 where
  pub before : List A
  pub after : List A
  pub split : seen ≡ before ++ best ∷ after
  pub passes_it : passes best ≡ true
  pub earlier_ones : list_all (earlier passes gives_way best) before ≡ true
  pub later_ones : list_all (later passes gives_way best) after ≡ true

unfoldable pub AllFail : {A : Type 0} → (A → Bool) → List A → Type 0
AllFail passes seen = list_all (λ x. not (passes x)) seen ≡ true

unfoldable pub Best : {A : Type 0} → (A → Bool) → (A → A → Bool) → List A → Option A → Type 0
Best passes gives_way seen None = AllFail passes seen
Best passes gives_way seen (Some best) = IsBest passes gives_way seen best

module _ {A : Type 0} (passes : A → Bool) (gives_way : A → A → Bool) (settles : Settles gives_way) where
  Best-none : (seen : List A) (x : A) → passes x ≡ false → AllFail passes seen → AllFail passes (seen ++ x ∷ [])
  unfolding AllFail
  Best-none seen x fails none = list_all-push (λ y. not (passes y)) seen x none (not_from_false (passes x) fails)

  Best-first : (seen : List A) (x : A) → passes x ≡ true → AllFail passes seen → IsBest passes gives_way (seen ++ x ∷ []) x
  unfolding AllFail
  Best-first seen x passed none = record {
    before = seen;
    after = [];
    split = refl;
    passes_it = passed;
    earlier_ones = list_all-follows (λ y. not (passes y)) (earlier passes gives_way x) seen (λ y e. or_left _ _ e) none;
    later_ones = refl;
  }

  -- the best stays where the next one fails, or is not given way to
  Best-stays : (seen : List A) (best x : A) → later passes gives_way best x ≡ true → IsBest passes gives_way seen best
      → IsBest passes gives_way (seen ++ x ∷ []) best
  Best-stays seen best x stays is = record {
    before = is.before;
    after = is.after ++ x ∷ [];
    split = ap (λ s. s ++ x ∷ []) is.split ∙ append_assoc is.before (best ∷ is.after) (x ∷ []);
    passes_it = is.passes_it;
    earlier_ones = is.earlier_ones;
    later_ones = list_all-push (later passes gives_way best) is.after x is.later_ones stays;
  }

  -- what gave way to it, or failed, does so to the next one
  still_gives : (best x : A) → gives_way best x ≡ true → (q : A) → earlier passes gives_way best q ≡ true
      → earlier passes gives_way x q ≡ true
  still_gives best x gives q e =
      ⊎_elim (λ fails. or_left _ _ fails) (λ gave. or_right _ _ (settles.onward q best x gave gives)) (or_cases _ _ e)

  -- and so does what it did not give way to
  gives_at_last : (best x : A) → gives_way best x ≡ true → (q : A) → later passes gives_way best q ≡ true
      → earlier passes gives_way x q ≡ true
  gives_at_last best x gives q e =
      ⊎_elim (λ fails. or_left _ _ fails) (λ stood. or_right _ _ (settles.past best q x (not-true _ stood) gives)) (or_cases _ _ e)

  -- or it gives way
  Best-gives : (seen : List A) (best x : A) → passes x ≡ true → gives_way best x ≡ true → IsBest passes gives_way seen best
      → IsBest passes gives_way (seen ++ x ∷ []) x
  Best-gives seen best x passed gives is = record {
    before = seen;
    after = [];
    split = refl;
    passes_it = passed;
    earlier_ones =
        ap (list_all (earlier passes gives_way x)) is.split ∙ list_all-append (earlier passes gives_way x) is.before (best ∷ is.after)
        ∙ and_from _ _
        (list_all-follows (earlier passes gives_way best) (earlier passes gives_way x) is.before (still_gives best x gives) is.earlier_ones)
        (and_from _ _ (or_right _ _ gives)
        (list_all-follows (later passes gives_way best) (earlier passes gives_way x) is.after (gives_at_last best x gives) is.later_ones));
    later_ones = refl;
  }

  Best-kept : (seen : List A) (best : Option A) (x : A) → Best passes gives_way seen best
      → Best passes gives_way (seen ++ x ∷ []) (kept passes gives_way best x)
  unfolding Best
  Best-kept seen None x is = elim (cases_Bool (passes x)) [
    | inl passed ↦ rw passed (Best-first seen x passed is)
    | inr fails ↦ rw fails (Best-none seen x fails is)
  ]
  Best-kept seen (Some best) x is = elim (cases_Bool (passes x)) [
    | inr fails ↦ rw fails (Best-stays seen best x (or_left _ _ (not_from_false (passes x) fails)) is)
    | inl passed ↦ elim (cases_Bool (gives_way best x)) [
      | inl gives ↦ rw (passed, gives) (Best-gives seen best x passed gives is)
      | inr stands ↦ rw (passed, stands) (Best-stays seen best x (or_right _ _ (not_from_false _ stands)) is)
    ]
  ]

  Best-all : (seen : List A) (best : Option A) (xs : List A) → Best passes gives_way seen best
      → Best passes gives_way (seen ++ xs) (best_from passes gives_way best xs)
  Best-all seen best [] is = subst (λ s. Best passes gives_way s best) (sym (append-nil seen)) is
  Best-all seen best (x ∷ xs) is =
      subst (λ s. Best passes gives_way s (best_from passes gives_way (kept passes gives_way best x) xs)) (append_assoc seen (x ∷ []) xs)
      (Best-all (seen ++ x ∷ []) (kept passes gives_way best x) xs (Best-kept seen best x is))

module _ {A : Type 0} (passes : A → Bool) (gives_way : A → A → Bool) where
  last_holds : (test : A → Bool) (xs : List A) (x : A) (ys : List A) → list_all test (xs ++ x ∷ ys) ≡ true → test x ≡ true
  last_holds test xs x ys all = (and_parts _ _ (and_parts _ _ (sym (list_all-append test xs (x ∷ ys)) ∙ all)).1).0

  not_later : (y best : A) → passes y ≡ true → passes best ≡ true → gives_way y best ≡ true → later passes gives_way y best ≡ false
  not_later y best passed passed_best gives = rw (passed_best, gives) refl

  -- no element before the best is chosen
  not_chosen : (before : List A) (y : A) (ys : List A) (best : A) (after : List A) → passes best ≡ true
      → earlier passes gives_way best y ≡ true
      → is_chosen passes gives_way before y (ys ++ best ∷ after) ≡ false
  not_chosen before y ys best after passed_best gives =
      elim (cases_Bool (is_chosen passes gives_way before y (ys ++ best ∷ after))) [
        | inr fails ↦ fails
        | inl is ↦
            let passed = (and_parts _ _ is).0 in
            let last = last_holds (later passes gives_way y) ys best after (and_parts _ _ (and_parts _ _ is).1).1 in
            ⊎_elim (λ fails. absurd (false≢true (sym (not-true _ fails) ∙ passed)))
            (λ gave. absurd (false≢true (sym (not_later y best passed passed_best gave) ∙ last)))
            (or_cases _ _ gives)
      ]

  chosen_from-found : (before ys : List A) (best : A) (after : List A) → passes best ≡ true
      → list_all (earlier passes gives_way best) (before ++ ys) ≡ true → list_all (later passes gives_way best) after ≡ true
      → chosen_from passes gives_way before (ys ++ best ∷ after) ≡ Some best
  chosen_from-found before [] best after passed_best before_all after_all =
      let here : is_chosen passes gives_way before best after ≡ true =
      and_from _ _ passed_best (and_from _ _ (ap (list_all (earlier passes gives_way best)) (sym (append-nil before)) ∙ before_all)
      after_all) in
      rw here refl
  chosen_from-found before (y ∷ ys) best after passed_best before_all after_all =
      let gives = last_holds (earlier passes gives_way best) before y ys before_all in
      let not_here = not_chosen before y ys best after passed_best gives in
      let shifted : list_all (earlier passes gives_way best) ((before ++ y ∷ []) ++ ys) ≡ true =
      ap (list_all (earlier passes gives_way best)) (append_assoc before (y ∷ []) ys) ∙ before_all in
      rw not_here (chosen_from-found (before ++ y ∷ []) ys best after passed_best shifted after_all)

  chosen_from-none : (before xs : List A) → AllFail passes xs → chosen_from passes gives_way before xs ≡ None
  unfolding AllFail
  chosen_from-none before [] none = refl
  chosen_from-none before (x ∷ xs) none =
      let rest = list_all (λ y. not (passes y)) xs in
      let fails = not-true (passes x) (and_parts (not (passes x)) rest none).0 in
      let not_here : is_chosen passes gives_way before x xs ≡ false =
      and_left (passes x) (list_all (earlier passes gives_way x) before && list_all (later passes gives_way x) xs) fails in
      rw not_here (chosen_from-none (before ++ x ∷ []) xs (and_parts (not (passes x)) rest none).1)

  chosen-Best : (xs : List A) (best : Option A) → Best passes gives_way xs best → chosen passes gives_way xs ≡ best
  unfolding chosen Best
  chosen-Best xs None is = chosen_from-none [] xs is
  chosen-Best xs (Some best) is =
      ap (chosen_from passes gives_way []) is.split
      ∙ chosen_from-found [] is.before best is.after is.passes_it is.earlier_ones is.later_ones

  -- the one pass finds the chosen element
  pub chosen-best_from : Settles gives_way → (xs : List A) → chosen passes gives_way xs ≡ best_from passes gives_way None xs
  unfolding Best AllFail
  chosen-best_from settles xs = chosen-Best xs _ (Best-all passes gives_way settles [] None xs refl)

  pub chosen-is_best : Settles gives_way → (xs : List A) → Best passes gives_way xs (chosen passes gives_way xs)
  unfolding Best AllFail
  chosen-is_best settles xs =
      subst (Best passes gives_way xs) (sym (chosen-best_from settles xs)) (Best-all passes gives_way settles [] None xs refl)

module _ {A : Type 0} (one two : A → Bool) (gives_way : A → A → Bool) where
  kept-agree : (best : Option A) (x : A) → one x ≡ two x → kept one gives_way best x ≡ kept two gives_way best x
  kept-agree None x e = rw e refl
  kept-agree (Some best) x e = rw e refl

  best_from-agree : (agree : A → Bool) → ((x : A) → agree x ≡ true → one x ≡ two x)
      → (best : Option A) (xs : List A) → list_all agree xs ≡ true
      → best_from one gives_way best xs ≡ best_from two gives_way best xs
  best_from-agree agree follows best [] all = refl
  best_from-agree agree follows best (x ∷ xs) all =
      ap (λ b. best_from one gives_way b xs) (kept-agree best x (follows x (and_parts _ _ all).0))
      ∙ best_from-agree agree follows (kept two gives_way best x) xs (and_parts _ _ all).1

  -- two tests that agree on a list choose the same element
  pub chosen-agree : Settles gives_way → (agree : A → Bool) → ((x : A) → agree x ≡ true → one x ≡ two x)
      → (xs : List A) → list_all agree xs ≡ true
      → chosen one gives_way xs ≡ chosen two gives_way xs
  chosen-agree settles agree follows xs all =
      chosen-best_from one gives_way settles xs ∙ best_from-agree agree follows None xs all
      ∙ sym (chosen-best_from two gives_way settles xs)

-- what holds of an option's value, if it has one
abbrev pub holds_if : {A : Type 0} → (A → Bool) → Option A → Bool
holds_if test None = true
holds_if test (Some x) = test x

module _ {A : Type 0} (passes : A → Bool) (gives_way : A → A → Bool) where
  pub kept-holds : (test : A → Bool) (best : Option A) (x : A) → (passes x ≡ true → test x ≡ true) → holds_if test best ≡ true
      → holds_if test (kept passes gives_way best x) ≡ true
  kept-holds test None x here held = elim (cases_Bool (passes x)) [
    | inl passed ↦ rw passed (here passed)
    | inr fails ↦ rw fails refl
  ]
  kept-holds test (Some best) x here held = elim (cases_Bool (passes x)) [
    | inr fails ↦ rw fails held
    | inl passed ↦ elim (cases_Bool (gives_way best x)) [
      | inl gives ↦ rw (passed, gives) (here passed)
      | inr stands ↦ rw (passed, stands) held
    ]
  ]

  pub best_from-holds : (each test : A → Bool) → ((x : A) → each x ≡ true → passes x ≡ true → test x ≡ true)
      → (best : Option A) (xs : List A) → holds_if test best ≡ true
      → list_all each xs ≡ true → holds_if test (best_from passes gives_way best xs) ≡ true
  best_from-holds each test follows best [] held all = held
  best_from-holds each test follows best (x ∷ xs) held all =
      best_from-holds each test follows (kept passes gives_way best x) xs
      (kept-holds test best x (follows x (and_parts _ _ all).0) held) (and_parts _ _ all).1

  -- what follows for each element of the list that passes is so of the chosen one
  pub chosen-holds : Settles gives_way → (each test : A → Bool) → ((x : A) → each x ≡ true → passes x ≡ true → test x ≡ true)
      → (xs : List A) → list_all each xs ≡ true
      → holds_if test (chosen passes gives_way xs) ≡ true
  chosen-holds settles each test follows xs all =
      ap (holds_if test) (chosen-best_from passes gives_way settles xs) ∙ best_from-holds each test follows None xs refl all
