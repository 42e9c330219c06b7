-- What the items of a list make, where some of them are gone or one is put among them.
use Rattle.std.proofs.Common.{◌≡◌, Bool, true, false, not, List, [], ◌∷◌, ◌++◌, filter}
use Rattle.std.proofs.Common.{refl, sym, ap, ◌∙◌, inl, inr}
use Rattle.std.specs.List.{list_all, list_any}
use Rattle.std.proofs.lemmas.Bool.{cases_Bool, and_parts, and_from, not-true}
use Rattle.store.specs.Change.{with_each}
use Rattle.store_sql_rows.specs.Stored.{are_apart}

module _ {Item Table : Type 0} (put : Item → Table → Table) where
  pub with_each-append : (xs ys : List Item) (t : Table) → with_each put (xs ++ ys) t ≡ with_each put ys (with_each put xs t)
  with_each-append [] ys t = refl
  with_each-append (x ∷ xs) ys t = with_each-append xs ys (put x t)

  module _ (gone : Item → Bool) (g : Table → Table) (absorb : (y : Item) (t : Table) → gone y ≡ true → g (put y t) ≡ g t)
      (commute : (y : Item) (t : Table) → gone y ≡ false → g (put y t) ≡ put y (g t)) where
    -- without the items that `g` undoes
    pub with_each-without : (ys : List Item) (t : Table) → with_each put (filter (λ y. not (gone y)) ys) (g t) ≡ g (with_each put ys t)
    with_each-without [] t = refl
    with_each-without (y ∷ ys) t =
        elim (cases_Bool (gone y)) [
          | inl is ↦
              rw is (ap (with_each put (filter (λ y. not (gone y)) ys)) (sym (absorb y t is)) ∙ with_each-without ys (put y t))
          | inr is ↦
              rw is (ap (with_each put (filter (λ y. not (gone y)) ys)) (sym (commute y t is)) ∙ with_each-without ys (put y t))
        ]

    -- past the items that it leaves
    pub with_each-past : (ys : List Item) (t : Table) → list_all (λ y. not (gone y)) ys ≡ true
        → with_each put ys (g t) ≡ g (with_each put ys t)
    with_each-past [] t all = refl
    with_each-past (y ∷ ys) t all =
        let both = and_parts (not (gone y)) (list_all (λ y. not (gone y)) ys) all in
        ap (with_each put ys) (sym (commute y t (not-true (gone y) both.0))) ∙ with_each-past ys (put y t) both.1

  -- what is seen of the whole stays where each item leaves it
  pub with_each-unseen : {Seen : Type 0} (seen : Table → Seen) (test : Item → Bool)
      → ((y : Item) (t : Table) → test y ≡ false → seen (put y t) ≡ seen t)
      → (ys : List Item) (t : Table) → filter test ys ≡ [] → seen (with_each put ys t) ≡ seen t
  with_each-unseen seen test leaves [] t none = refl
  with_each-unseen seen test leaves (y ∷ ys) t none =
      elim (cases_Bool (test y)) [
        | inl is ↦ let some = rw is at none in absurd (let h : ⊥ = cc in h)
        | inr is ↦ let rest = rw is at none in with_each-unseen seen test leaves ys (put y t) rest ∙ leaves y t is
      ]

  -- and is what the only item of a key tells
  pub with_each-seen : {Seen : Type 0} (seen : Table → Seen) (test : Item → Bool)
      → ((y : Item) (t : Table) → test y ≡ false → seen (put y t) ≡ seen t)
      → (value : Item → Seen) → ((y : Item) (t : Table) → test y ≡ true → seen (put y t) ≡ value y)
      → (ys : List Item) (x : Item) (t : Table) → filter test ys ≡ x ∷ [] → seen (with_each put ys t) ≡ value x
  with_each-seen seen test leaves value shows [] x t only = absurd (let h : ⊥ = cc in h)
  with_each-seen seen test leaves value shows (y ∷ ys) x t only =
      elim (cases_Bool (test y)) [
        | inl is ↦
            let whole = rw is at only in
            let same : y ≡ x = cc in
            let none : filter test ys ≡ [] = cc in
            with_each-unseen seen test leaves ys (put y t) none ∙ shows y t is ∙ ap value same
        | inr is ↦ let rest = rw is at only in with_each-seen seen test leaves value shows ys x (put y t) rest
      ]

  -- what stays once it is so
  pub with_each-stays : (seen : Table → Bool) → ((y : Item) (t : Table) → seen t ≡ true → seen (put y t) ≡ true)
      → (ys : List Item) (t : Table) → seen t ≡ true → seen (with_each put ys t) ≡ true
  with_each-stays seen stays [] t is = is
  with_each-stays seen stays (y ∷ ys) t is = with_each-stays seen stays ys (put y t) (stays y t is)

-- ---- tests of lists

module _ {X : Type 0} where
  pub all-filter : (p : X → Bool) (xs : List X) → list_all p (filter p xs) ≡ true
  all-filter p [] = refl
  all-filter p (x ∷ xs) =
      elim (cases_Bool (p x)) [
        | inl is ↦ rw is (and_from (p x) (list_all p (filter p xs)) is (all-filter p xs))
        | inr is ↦ rw is (all-filter p xs)
      ]

  pub all-kept : (q p : X → Bool) (xs : List X) → list_all q xs ≡ true → list_all q (filter p xs) ≡ true
  all-kept q p [] all = refl
  all-kept q p (x ∷ xs) all =
      let both = and_parts (q x) (list_all q xs) all in
      elim (cases_Bool (p x)) [
        | inl is ↦ rw is (and_from (q x) _ both.0 (all-kept q p xs both.1))
        | inr is ↦ rw is (all-kept q p xs both.1)
      ]

  pub all-parts : (q : X → Bool) (xs ys : List X) → list_all q (xs ++ ys) ≡ true → (list_all q xs ≡ true) × (list_all q ys ≡ true)
  all-parts q [] ys all = (refl, all)
  all-parts q (x ∷ xs) ys all =
      let both = and_parts (q x) (list_all q (xs ++ ys)) all in
      let rest = all-parts q xs ys both.1 in
      (and_from (q x) (list_all q xs) both.0 rest.0, rest.1)

  pub all-put : (q : X → Bool) (xs : List X) (x : X) (ys : List X) → list_all q (xs ++ ys) ≡ true → q x ≡ true
      → list_all q (xs ++ x ∷ ys) ≡ true
  all-put q [] x ys all is = and_from (q x) (list_all q ys) is all
  all-put q (y ∷ xs) x ys all is =
      let both = and_parts (q y) (list_all q (xs ++ ys)) all in
      and_from (q y) (list_all q (xs ++ x ∷ ys)) both.0 (all-put q xs x ys both.1 is)

  pub none-any : (p : X → Bool) (xs : List X) → not (list_any p xs) ≡ list_all (λ x. not (p x)) xs
  none-any p [] = refl
  none-any p (x ∷ xs) =
      elim (cases_Bool (p x)) [
        | inl is ↦ rw is refl
        | inr is ↦ rw is (none-any p xs)
      ]

  module _ (same : X → X → Bool) where
    pub apart-kept : (p : X → Bool) (xs : List X) → are_apart same xs ≡ true → are_apart same (filter p xs) ≡ true
    apart-kept p [] apart = refl
    apart-kept p (x ∷ xs) apart =
        let both = and_parts (not (list_any (same x) xs)) (are_apart same xs) apart in
        let others : list_all (λ y. not (same x y)) xs ≡ true = sym (none-any (same x) xs) ∙ both.0 in
        elim (cases_Bool (p x)) [
          | inl is ↦
              rw is (and_from (not (list_any (same x) (filter p xs))) (are_apart same (filter p xs))
              (none-any (same x) (filter p xs) ∙ all-kept (λ y. not (same x y)) p xs others)
              (apart-kept p xs both.1))
          | inr is ↦ rw is (apart-kept p xs both.1)
        ]

    pub apart-put : ((x y : X) → same x y ≡ same y x) → (xs : List X) (x : X) (ys : List X) → are_apart same (xs ++ ys) ≡ true
        → list_all (λ y. not (same x y)) (xs ++ ys) ≡ true → are_apart same (xs ++ x ∷ ys) ≡ true
    apart-put either [] x ys apart others =
        and_from (not (list_any (same x) ys)) (are_apart same ys) (none-any (same x) ys ∙ others) apart
    apart-put either (y ∷ xs) x ys apart others =
        let both = and_parts (not (list_any (same y) (xs ++ ys))) (are_apart same (xs ++ ys)) apart in
        let parts = and_parts (not (same x y)) (list_all (λ y. not (same x y)) (xs ++ ys)) others in
        let mine : list_all (λ z. not (same y z)) (xs ++ ys) ≡ true = sym (none-any (same y) (xs ++ ys)) ∙ both.0 in
        let this : not (same y x) ≡ true = ap not (either y x) ∙ parts.0 in
        and_from (not (list_any (same y) (xs ++ x ∷ ys))) (are_apart same (xs ++ x ∷ ys))
        (none-any (same y) (xs ++ x ∷ ys) ∙ all-put (λ z. not (same y z)) xs x ys mine this)
        (apart-put either xs x ys both.1 parts.1)
