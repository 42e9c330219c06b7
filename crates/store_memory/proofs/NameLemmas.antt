-- Names that were collected from a table and put in order.
use Rattle.std.proofs.Common.{◌≡◌, ◌+◌, ◌↔◌, Bool, true, false, cond, List, [], ◌∷◌, ◌++◌, append-nil, get_or, Option, Some, None}
use Rattle.std.proofs.Common.{refl, sym, ap, ◌∙◌, subst, inl, inr, arith}
use Rattle.std.specs.declared.cmp.Ordering.{Ordering}
use Rattle.std.specs.declared.cmp.Ordering.TheVariants.{Less, Equal, Greater}
use Rattle.std.specs.Bool.{IsTrue}
use Rattle.std.specs.Cmp.Lexicographic.{slice_cmp, nat_list_cmp_total, nat_list_eq_equiv}
use Rattle.std.specs.List.{AllByRecursion, Contains, IsDistinct}
use Rattle.std.specs.List.Sorted.{IsPermutation, IsSorted, IsStrictlySortedBy}
use Rattle.std.specs.Map.{keys_of, lookup}
use Rattle.std.specs.Ordering.{nat_cmp, is_eq, is_lt, ordering_reverse}
use Rattle.std.specs.Str.{bytes_eq}
use Rattle.std.proofs.lemmas.Bool.{both_ways, cases_Bool, false≢true}
use Rattle.std.proofs.lemmas.List.Sorted.{Contains-permutation, IsPermutation-sym}
use Rattle.std.proofs.lemmas.Map.Keys.{IsDistinct-IsPermutation, apart_from_distinct, sorted_from_all_adjacent}
use Rattle.std.proofs.lemmas.Map.Text.{is_eq-slice_cmp}
use Rattle.std.proofs.lemmas.Slice.Eq.{bytes_eq-Decides}
use Rattle.store.specs.Listed.{AreTexts}
use Rattle.store_memory.specs.Slots.{IsStanding, standing_keys}
use Rattle.points.specs.Texts.{Text}
use Rattle.store.proofs.TextLemmas.{contains_first, contains_none, contains_other, contains_rest}

must_be_less : (r s : Ordering) → s ≡ ordering_reverse r → is_lt s ≡ false → is_eq r ≡ false → r ≡ Less
must_be_less Less s turned not_less apart = refl
must_be_less Equal s turned not_less apart = absurd (false≢true (sym apart))
must_be_less Greater s turned not_less apart = absurd (false≢true (sym not_less ∙ ap is_lt turned))

-- names in order of which no two are the same rise
rise : (names : List Text) → IsSorted (slice_cmp nat_cmp) names → IsDistinct bytes_eq names → IsStrictlySortedBy (slice_cmp nat_cmp) names
rise names sorted distinct =
    sorted_from_all_adjacent nat_list_cmp_total names []
    (λ k below.
    let a = get_or names k [] in
    let b = get_or names (k + 1) [] in
    must_be_less (slice_cmp nat_cmp a b) (slice_cmp nat_cmp b a) (nat_list_cmp_total.antisymm b a) (sorted k [] (omega arith) below)
    (is_eq-slice_cmp a b ∙ apart_from_distinct bytes_eq names k (k + 1) [] distinct (omega arith) below))

module _ {X : Type 0} (stands : X → Bool) where
  apart : (x : Text) (es : List (Text × X)) → AllByRecursion (λ k. bytes_eq x k ≡ false) (keys_of es)
      → AllByRecursion (λ k. bytes_eq x k ≡ false) (standing_keys stands es)
  apart x [] all = tt
  apart x (e ∷ es) all =
      elim (stands e.1) as (λ b. AllByRecursion (λ k. bytes_eq x k ≡ false)
      (cond b (e.0 ∷ standing_keys stands es) (standing_keys stands es))) [
        | true ↦ (all.0, apart x es all.1)
        | false ↦ apart x es all.1
      ]

  distinct : (es : List (Text × X)) → IsDistinct bytes_eq (keys_of es) → IsDistinct bytes_eq (standing_keys stands es)
  unfolding IsDistinct
  distinct [] keys = tt
  distinct (e ∷ es) keys =
      elim (stands e.1) as (λ b. IsDistinct bytes_eq (cond b (e.0 ∷ standing_keys stands es) (standing_keys stands es))) [
        | true ↦ (apart e.0 es keys.0, distinct es keys.1)
        | false ↦ distinct es keys.1
      ]

  not_found : (x : Text) (es : List (Text × X)) → AllByRecursion (λ k. bytes_eq x k ≡ false) (keys_of es) → lookup (bytes_eq x) es ≡ None
  not_found x [] all = refl
  not_found x (e ∷ es) all = rw all.0 (not_found x es all.1)

  found_here : (text : Text) (e : Text × X) (rest : Option X) → bytes_eq text e.0 ≡ true
      → cond (bytes_eq text e.0) (Some e.1) rest ≡ Some e.1
  found_here text e rest equal = rw equal refl

  found_later : (text : Text) (e : Text × X) (rest : Option X) → bytes_eq text e.0 ≡ false → cond (bytes_eq text e.0) (Some e.1) rest ≡ rest
  found_later text e rest other = rw other refl

  each : (es : List (Text × X)) → IsDistinct bytes_eq (keys_of es) → (text : Text)
      → Contains (standing_keys stands es) text ↔ IsStanding stands (lookup (bytes_eq text) es)
  unfolding IsDistinct
  each [] keys text = ((λ here. contains_none text here), (λ none. absurd none))
  each (e ∷ es) keys text =
      let ks = standing_keys stands es in
      let later : Contains ks text ↔ IsStanding stands (lookup (bytes_eq text) es) = each es keys.1 text in
      elim (cases_Bool (bytes_eq text e.0)) [
        | inl equal ↦
            let same : text ≡ e.0 = (bytes_eq-Decides text e.0).0 equal in
            let gone : lookup (bytes_eq text) es ≡ None = subst (λ x. lookup (bytes_eq x) es ≡ None) (sym same) (not_found e.0 es keys.0) in
            let out : Contains ks text → ⊥ = λ here. subst (IsStanding stands) gone (later.0 here) in
            let this : Contains (standing_keys stands (e ∷ es)) text ↔ IsTrue (stands e.1) =
            elim (stands e.1) as (λ b. Contains (cond b (e.0 ∷ ks) ks) text ↔ IsTrue b) [
              | true ↦ ((λ here. refl), (λ is. subst (λ x. Contains (x ∷ ks) text) same (contains_first text ks)))
              | false ↦ ((λ here. absurd (out here)), (λ is. absurd (false≢true is)))
            ] in
            subst (λ o. Contains (standing_keys stands (e ∷ es)) text ↔ IsStanding stands o)
            (sym (found_here text e (lookup (bytes_eq text) es) equal)) this
        | inr unlike ↦
            let other : e.0 ≡ text → ⊥ = λ same. both_ways (bytes_eq text e.0) unlike ((bytes_eq-Decides text e.0).1 (sym same)) in
            let this : Contains (standing_keys stands (e ∷ es)) text ↔ IsStanding stands (lookup (bytes_eq text) es) =
            elim (stands e.1) as (λ b. Contains (cond b (e.0 ∷ ks) ks) text ↔ IsStanding stands (lookup (bytes_eq text) es)) [
              | true ↦ ((λ here. later.0 (contains_other e.0 ks text other here)), (λ is. contains_rest e.0 ks text (later.1 is)))
              | false ↦ later
            ] in
            subst (λ o. Contains (standing_keys stands (e ∷ es)) text ↔ IsStanding stands o)
            (sym (found_later text e (lookup (bytes_eq text) es) unlike)) this
      ]

-- the names that stand in a table, collected and then put in order
pub AreTexts-sorted : {X : Type 0} (stands : X → Bool) (found names : List Text) (rest es : List (Text × X))
    → found ++ standing_keys stands rest ≡ standing_keys stands es → rest ≡ [] → IsDistinct bytes_eq (keys_of es)
    → IsPermutation found names → IsSorted (slice_cmp nat_cmp) names
    → AreTexts (λ text. IsStanding stands (lookup (bytes_eq text) es)) names
AreTexts-sorted stands found names rest es is none keys moved sorted =
    let whole : found ≡ standing_keys stands es = sym (append-nil found) ∙ ap (λ r. found ++ standing_keys stands r) (sym none) ∙ is in
    let apart_all : IsDistinct bytes_eq found = subst (IsDistinct bytes_eq) (sym whole) (distinct stands es keys) in
    let flips = nat_list_eq_equiv.symm in
    record {
      rise = rise names sorted (IsDistinct-IsPermutation bytes_eq flips found names moved apart_all);
      each = λ text.
          let at : Contains found text ↔ IsStanding stands (lookup (bytes_eq text) es) =
          subst (λ list. Contains list text ↔ IsStanding stands (lookup (bytes_eq text) es)) (sym whole) (each stands es keys text) in (
            (λ here. at.0 (Contains-permutation names found text (IsPermutation-sym found names moved) here)),
            (λ holds. Contains-permutation found names text moved (at.1 holds)),
          );
    }
