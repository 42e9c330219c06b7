-- Panels that are alike, one after the other.
use Rattle.std.proofs.Common.{◌≡◌, ℕ, zero, suc, ◌+◌, ◌<◌, ◌≤◌, true, false, List, [], ◌∷◌, ◌++◌, Option, Some, None, is_some, length, take, get_or, sym, subst, arith, inl, inr}
use Rattle.std.proofs.lemmas.Bool.{false≢true}
use Rattle.std.proofs.lemmas.List.{take_all}
use Rattle.std.proofs.lemmas.List.Elements.{Contains-append_cases}
use Rattle.std.specs.List.{Contains}
use Rattle.desk_adopt.proofs.ReadLemmas.{taken-more}
use Rattle.store.specs.Tables.{Tables}
use Rattle.cli_record.specs.declared.difference.Difference.{Difference}
use Rattle.cli_record.specs.Belonging.{AlikeOrTold}

-- nothing is told
pub alike-none : (AreAlike : Type 0) (held recorded : Tables) (found : Option Difference) → is_some found ≡ false
    → AlikeOrTold AreAlike held recorded found → AreAlike
alike-none AreAlike held recorded None none alike = alike
alike-none AreAlike held recorded (Some difference) none told = absurd (false≢true (sym none))

-- what is told against a part is told against the whole
pub told-of-part : (Part Whole : Type 0) (held recorded : Tables) (found : Option Difference) → (Whole → Part) → is_some found ≡ true
    → AlikeOrTold Part held recorded found → AlikeOrTold Whole held recorded found
told-of-part Part Whole held recorded None part some alike = absurd (false≢true some)
told-of-part Part Whole held recorded (Some difference) part some told = (λ whole. told.0 (part whole), told.1)

one-of : {X : Type 0} (P : X → Type 0) (x y : X) → Contains (x ∷ []) y → P x → P y
one-of P x y (zero, below, is) of = subst P is of
one-of P x y (suc k, below, is) of = absurd (omega (arith, below))

-- with one panel more
pub panel-more : {X : Type 0} (P : X → Type 0) (xs : List X) (i : ℕ) (x : X) → i < length xs → x ≡ get_or xs i x
    → ((y : X) → Contains (take i xs) y → P y) → P x → (y : X) → Contains (take (i + 1) xs) y → P y
panel-more P xs i x below is each one y here =
    elim (Contains-append_cases (take i xs) (x ∷ []) y (subst (λ l. Contains l y) (taken-more xs i x below is) here)) [
      | inl before ↦ each y before
      | inr last ↦ one-of P x y last one
    ]

-- all panels
pub all-panels : {X : Type 0} (P : X → Type 0) (xs : List X) (i : ℕ) → length xs ≤ i → ((y : X) → Contains (take i xs) y → P y)
    → (y : X) → Contains xs y → P y
all-panels P xs i end each y here = each y (subst (λ l. Contains l y) (sym (take_all i xs end)) here)
