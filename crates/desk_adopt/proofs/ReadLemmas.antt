-- Rows that are read one after the other.
use Rattle.std.proofs.Common.{◌≡◌, ◌∙◌, ℕ, ◌+◌, ◌<◌, Bool, false, List, [], ◌∷◌, ◌++◌, length, take, get_or, sym, ap}
use Rattle.std.specs.Bool.{IsTrue}
use Rattle.std.specs.List.{AllZip, list_any}
use Rattle.std.proofs.lemmas.List.{take_more}
use Rattle.store.proofs.StoodLemmas.{none_any, not_true}
use Rattle.store.specs.Asked.{Asked}
use Rattle.store.specs.Listed.{AreTexts}
use Rattle.points.specs.Texts.{Text}

-- one list more
pub zip-more : {A B : Type 0} (R : A → B → Type 0) (xs : List A) (ys : List B) (x : A) (y : B) → AllZip R xs ys → R x y
    → AllZip R (xs ++ x ∷ []) (ys ++ y ∷ [])
zip-more R [] [] x y each here = (here, tt)
zip-more R (a ∷ xs) (b ∷ ys) x y each here = (each.0, zip-more R xs ys x y each.1 here)
zip-more R [] (b ∷ ys) x y each here = absurd each
zip-more R (a ∷ xs) [] x y each here = absurd each

-- one item more
pub taken-more : {A : Type 0} (xs : List A) (i : ℕ) (x : A) → i < length xs → x ≡ get_or xs i x → take (i + 1) xs ≡ take i xs ++ x ∷ []
taken-more xs i x below is = take_more xs i x below ∙ ap (λ y. take i xs ++ y ∷ []) (sym is)

-- of each name in the tables the row can stand, since it was read
pub each-stood : (row : Text → Asked) (holds : Text → Type 0) (names : List Text) (first read : Asked → Bool) → read ≡ first
    → AreTexts holds names
    → list_any (λ name. read (row name)) names ≡ false → (name : Text) → holds name → first (row name) ≡ false
each-stood row holds names first read same are none name here =
    ap (λ (f : Asked → Bool). f (row name)) (sym same) ∙ none_any (λ it. read (row it)) names none name ((are.each name).1 here)

pub one-stood : (asked : Asked) (first read : Asked → Bool) → read ≡ first → (IsTrue (read asked) → ⊥) → first asked ≡ false
one-stood asked first read same none = ap (λ (f : Asked → Bool). f asked) (sym same) ∙ not_true (read asked) none
