-- Rows that are read one after the other, and can stand.
use Rattle.std.proofs.Common.{◌≡◌, ◌∙◌, ℕ, zero, suc, arith, ◌+◌, ◌<◌, Bool, true, false, List, [], ◌∷◌, length, take, get_or, refl, sym, ap}
use Rattle.std.specs.Bool.{IsTrue}
use Rattle.std.specs.List.{Contains, list_any}
use Rattle.std.proofs.lemmas.Bool.{or_from, or_parts}
use Rattle.std.proofs.lemmas.List.Folds.{list_any_more}

-- one row more that can stand
pub more_stood : {A : Type 0} (test : A → Bool) (xs : List A) (i : ℕ) (x : A) → i < length xs → x ≡ get_or xs i x
    → list_any test (take i xs) ≡ false → test x ≡ false → list_any test (take (i + 1) xs) ≡ false
more_stood test xs i x below is before here =
    list_any_more test xs i x below ∙ or_from (list_any test (take i xs)) (test (get_or xs i x)) before (ap test (sym is) ∙ here)

pub not_true : (b : Bool) → (IsTrue b → ⊥) → b ≡ false
not_true false none = refl
not_true true none = absurd (none refl)

pub none_any : {A : Type 0} (test : A → Bool) (xs : List A) → list_any test xs ≡ false → (x : A) → Contains xs x → test x ≡ false
none_any test [] none x here = absurd (let below = here.1 in omega (arith, below))
none_any test (y ∷ ys) none x (zero, below, is) = ap test (sym is) ∙ (or_parts (test y) (list_any test ys) none).0
none_any test (y ∷ ys) none x (suc k, below, is) =
    none_any test ys (or_parts (test y) (list_any test ys) none).1 x (k, omega (arith, below), is)
