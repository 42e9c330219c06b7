-- When an answer is empty.
use Rattle.std.proofs.Common.{◌≡◌, ◌↔◌, inl, inr, ℕ, Bool, true, false, cond, List, [], ◌∷◌, ◌++◌, length, map, flat_map, refl, sym, ap, ◌∙◌, true≢false, IsTrue, ◌==◌}
use Rattle.std.proofs.lemmas.Bool.Decides.{Decides-eqb}
use Rattle.std.specs.List.Sorted.{IsPermutation}
use Rattle.std.proofs.lemmas.List.{nil_from_length}
use Rattle.std.proofs.lemmas.List.Sorted.{length_permutation}
use Rattle.sqlite_rules.specs.Lists.{Has}

pub map_empty : {X Y : Type 0} (f : X → Y) (xs : List X) → map f xs ≡ [] → xs ≡ []
map_empty f [] is = refl
map_empty f (x ∷ xs) is = absurd cc

pub permuted_empty : {X : Type 0} (xs ys : List X) → IsPermutation xs ys → ys ≡ [] → xs ≡ []
permuted_empty xs ys same none = nil_from_length xs (sym (length_permutation xs ys same) ∙ ap length none)

pub empty_permuted : {X : Type 0} (xs ys : List X) → IsPermutation xs ys → xs ≡ [] → ys ≡ []
empty_permuted xs ys same none = nil_from_length ys (length_permutation xs ys same ∙ ap length none)

front_empty : {X : Type 0} (xs ys : List X) → xs ++ ys ≡ [] → (xs ≡ []) × (ys ≡ [])
front_empty [] ys is = (refl, is)
front_empty (x ∷ xs) ys is = absurd cc

pub each_empty : {X Y : Type 0} (f : X → List Y) (xs : List X) → flat_map f xs ≡ [] → (x : X) → Has xs x → f x ≡ []
each_empty f [] is x h = absurd h
each_empty f (y ∷ xs) is x (inl same) = ap f same ∙ (front_empty (f y) (flat_map f xs) is).0
each_empty f (y ∷ xs) is x (inr later) = each_empty f xs (front_empty (f y) (flat_map f xs) is).1 x later

pub all_empty : {X Y : Type 0} (f : X → List Y) (xs : List X) → ((x : X) → Has xs x → f x ≡ []) → flat_map f xs ≡ []
all_empty f [] none = refl
all_empty f (x ∷ xs) none = rw (none x (inl refl), all_empty f xs (λ y h. none y (inr h))) refl

pub cond_empty : {X : Type 0} (b : Bool) (x : X) → cond b (x ∷ []) [] ≡ [] → b ≡ false
cond_empty true x is = absurd cc
cond_empty false x is = refl

pub empty_cond : {X : Type 0} (b : Bool) (x : X) → b ≡ false → cond b (x ∷ []) [] ≡ []
empty_cond true x is = absurd (true≢false is)
empty_cond false x is = refl

pub empty_reported : {X : Type 0} (xs : List X) (n : ℕ) (b : Bool) → n ≡ length xs → b ≡ (n == 0) → IsTrue b ↔ (xs ≡ [])
empty_reported xs n b counted is = (
  λ reported. nil_from_length xs (sym counted ∙ (Decides-eqb n 0).0 (sym is ∙ reported)),
  λ none. is ∙ (Decides-eqb n 0).1 (counted ∙ ap length none),
)
