-- Which texts a list has that begins with this one.
use Rattle.std.proofs.Common.{◌≡◌, ◌<◌, List, [], ◌∷◌, inl, inr, arith}
use Rattle.std.specs.List.{Contains}
use Rattle.std.proofs.lemmas.List.Elements.{Contains-append_cases, Contains-append_right, Contains-push, Contains-push_cases, Contains-append_left}
use Rattle.points.specs.Texts.{Text}

pub contains_first : (x : Text) (xs : List Text) → Contains (x ∷ xs) x
contains_first x xs = Contains-append_left (x ∷ []) xs x (Contains-push [] x)

pub contains_rest : (x : Text) (xs : List Text) (t : Text) → Contains xs t → Contains (x ∷ xs) t
contains_rest x xs t here = Contains-append_right (x ∷ []) xs t here

pub contains_none : (t : Text) → Contains [] t → ⊥
contains_none t here = let below : here.0 < 0 = here.1 in omega arith

pub contains_other : (x : Text) (xs : List Text) (t : Text) → (x ≡ t → ⊥) → Contains (x ∷ xs) t → Contains xs t
contains_other x xs t apart here =
    elim (Contains-append_cases (x ∷ []) xs t here) [
      | inl first ↦ elim (Contains-push_cases [] x t first) [
        | inl none ↦ absurd (contains_none t none)
        | inr same ↦ absurd (apart same)
      ]
      | inr rest ↦ rest
    ]
