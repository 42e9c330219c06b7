-- Where a name stands in a list, and the index of a list with one more name.
use Rattle.std.proofs.Common.{◌≡◌, ℕ, suc, ◌+◌, Bool, true, false, ◌||◌, ◌++◌, cond, not, nat_lt, List, [], ◌∷◌, length, Option, Some, None, is_some, option_map, position, bytes_eq, refl, sym, ap, ap₂, ◌∙◌, arith}
use Rattle.std.specs.HashMap.{HashMap, Updates}
use Rattle.std.specs.List.{list_any, position_or_len}
use Rattle.std.proofs.lemmas.Slice.Eq.{bytes_eq-Decides}
use Rattle.points.specs.NameIndex.{IsIndex, is_among}

module _ {A : Type 0} (p : A → Bool) where
  first_or_past : (b : Bool) (n len : ℕ) → cond (nat_lt (cond (not b) (1 + n) 0) (suc len)) (Some (cond (not b) (1 + n) 0)) None
      ≡ cond b (Some 0) (option_map (λ k. 1 + k) (cond (nat_lt n len) (Some n) None))
  first_or_past true n len = grind arith
  first_or_past false n len = grind arith

  -- the first place is that of the first item, or one past that in the rest
  position_cons : (x : A) (xs : List A) → position p (x ∷ xs) ≡ cond (p x) (Some 0) (option_map (λ k. 1 + k) (position p xs))
  position_cons x xs = first_or_past (p x) (position_or_len p xs) (length xs)

  pub is_some-position : (xs : List A) → is_some (position p xs) ≡ list_any p xs
  is_some-position [] = refl
  is_some-position (x ∷ xs) = ap is_some (position_cons x xs) ∙ by (p x) (position p xs) (is_some-position xs)
    where
      by : (b : Bool) (o : Option ℕ) → is_some o ≡ list_any p xs
          → is_some (cond b (Some 0) (option_map (λ k. 1 + k) o)) ≡ (b || list_any p xs)
      by true o e = refl
      by false None e = e
      by false (Some k) e = e

  -- one more item at the end
  pub position-push : (xs : List A) (y : A)
      → position p (xs ++ y ∷ []) ≡ cond (list_any p xs) (position p xs) (cond (p y) (Some (length xs)) None)
  position-push [] y = position_cons y []
  position-push (x ∷ xs) y =
      position_cons x (xs ++ y ∷ [])
      ∙ ap (λ o. cond (p x) (Some 0) (option_map (λ k. 1 + k) o)) (position-push xs y)
      ∙ by (p x) (list_any p xs) (p y)
      ∙ ap (λ (o : Option ℕ). cond (list_any p (x ∷ xs)) o (cond (p y) (Some (suc (length xs))) None)) (sym (position_cons x xs))
    where
      one_more : 1 + length xs ≡ suc (length xs)
      one_more = omega arith

      by : (b any c : Bool)
          → cond b (Some 0) (option_map (λ k. 1 + k) (cond any (position p xs) (cond c (Some (length xs)) None)))
          ≡ cond (b || any) (cond b (Some 0) (option_map (λ k. 1 + k) (position p xs))) (cond c (Some (suc (length xs))) None)
      by true any c = refl
      by false true c = refl
      by false false true = ap Some one_more
      by false false false = refl

nothing : (o : Option ℕ) → is_some o ≡ false → o ≡ None
nothing None e = refl
nothing (Some k) e = absurd (cc)

-- the index of one more name, which was not among them
pub IsIndex-push : {S : Type 0} (old new : HashMap (List ℕ) ℕ S) (names : List (List ℕ)) (name : List ℕ) (place : ℕ) → place ≡ length names
    → IsIndex old names → is_among name names ≡ false → Updates bytes_eq old new name (Some place) → IsIndex new (names ++ name ∷ [])
IsIndex-push old new names name place last was apart updates = λ q.
    updates.0 q ∙ (ap₂ (λ (n : ℕ) (o : Option ℕ). cond (bytes_eq name q) (Some n) o) last (was q)
    ∙ (by q (bytes_eq name q) refl ∙ sym (position-push (λ n. bytes_eq n q) names name)))
  where
    by : (q : List ℕ) (b : Bool) → bytes_eq name q ≡ b
        → cond (bytes_eq name q) (Some (length names)) (position (λ n. bytes_eq n q) names)
        ≡ cond (is_among q names) (position (λ n. bytes_eq n q) names) (cond (bytes_eq name q) (Some (length names)) None)
    by q true e =
        let same : name ≡ q = (bytes_eq-Decides name q).0 e in
        let none : is_among q names ≡ false = ap (λ n. is_among n names) (sym same) ∙ apart in
        rw (e, none) refl
    by q false e = rw e (other (is_among q names) refl)
      where
        other : (b : Bool) → is_among q names ≡ b → position (λ n. bytes_eq n q) names ≡ cond b (position (λ n. bytes_eq n q) names) None
        other true e = refl
        other false e = nothing _ (is_some-position (λ n. bytes_eq n q) names ∙ e)
