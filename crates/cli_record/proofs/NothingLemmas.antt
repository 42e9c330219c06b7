-- Lists in which nothing is found.
use Rattle.std.proofs.Common.{◌≡◌, ◌∙◌, ℕ, zero, suc, ◌+◌, ◌≤◌, ◌<◌, Bool, true, false, List, [], ◌∷◌, ◌++◌, refl, sym, ap, arith, inl, inr}
use Rattle.std.proofs.Math.Nat.{eq-or-lt_of_le}
use Rattle.std.specs.List.{Contains, flat_map, range_with_len}
use Rattle.cli_record.specs.Unless.{unless}

pub no-both : {A : Type 0} (xs ys : List A) → xs ++ ys ≡ [] → (xs ≡ []) × (ys ≡ [])
no-both [] ys none = (refl, none)
no-both (x ∷ xs) ys none = absurd (let no : ⊥ = cc in no)

pub both-none : {A : Type 0} (xs ys : List A) → xs ≡ [] → ys ≡ [] → xs ++ ys ≡ []
both-none xs ys first second = ap (λ l. l ++ ys) first ∙ second

pub unless-none : {A : Type 0} (same : Bool) (x : A) → unless same x ≡ [] → same ≡ true
unless-none true x none = refl
unless-none false x none = absurd (let no : ⊥ = cc in no)

pub none-unless : {A : Type 0} (same : Bool) (x : A) → same ≡ true → unless same x ≡ []
none-unless same x is = rw is refl

-- nothing of each
pub none-at : {X A : Type 0} (f : X → List A) (xs : List X) → flat_map f xs ≡ [] → (x : X) → Contains xs x → f x ≡ []
none-at f [] none x here = absurd (let below = here.1 in omega (arith, below))
none-at f (y ∷ ys) none x (zero, below, is) = ap f (sym is) ∙ (no-both (f y) (flat_map f ys) none).0
none-at f (y ∷ ys) none x (suc k, below, is) =
    none-at f ys (no-both (f y) (flat_map f ys) none).1 x (k, omega (arith, below), is)

pub all-none : {X A : Type 0} (f : X → List A) (xs : List X) → ((x : X) → Contains xs x → f x ≡ []) → flat_map f xs ≡ []
all-none f [] each = refl
all-none f (y ∷ ys) each =
    both-none (f y) (flat_map f ys) (each y (0, omega arith, refl))
    (all-none f ys (λ x here. let below = here.1 in each x (suc here.0, omega (arith, below), here.2)))

-- nothing of each number from one on
pub none-in : {A : Type 0} (f : ℕ → List A) (from size : ℕ) → flat_map f (range_with_len from size) ≡ []
    → (number : ℕ) → from ≤ number → number < from + size → f number ≡ []
none-in f from zero none number low high = absurd (omega (arith, low, high))
none-in f from (suc size) none number low high =
    let parts = no-both (f from) (flat_map f (range_with_len (from + 1) size)) none in
    elim (eq-or-lt_of_le low) [
      | inl is ↦ ap f (sym is) ∙ parts.0
      | inr more ↦ none-in f (from + 1) size parts.1 number (omega (arith, more)) (omega (arith, high))
    ]

pub range-none : {A : Type 0} (f : ℕ → List A) (from size : ℕ) → ((number : ℕ) → from ≤ number → number < from + size → f number ≡ [])
    → flat_map f (range_with_len from size) ≡ []
range-none f from zero each = refl
range-none f from (suc size) each =
    both-none (f from) (flat_map f (range_with_len (from + 1) size)) (each from (omega arith) (omega arith))
    (range-none f (from + 1) size (λ number low high. each number (omega (arith, low)) (omega (arith, high))))
