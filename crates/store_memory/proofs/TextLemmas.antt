-- Lists of names and of texts, as a table's entries give them.
use Rattle.std.proofs.Common.{◌≡◌, suc, ◌↔◌, Bool, true, false, cond, List, [], ◌∷◌, ◌++◌, append-nil, option_to_list, Option, Some, None}
use Rattle.std.proofs.Common.{IfSome, is_some, map, refl, sym, ap, ◌∙◌, subst, inl, inr, arith}
use Rattle.std.specs.declared.cmp.Ordering.TheVariants.{Less}
use Rattle.std.specs.Bool.{IsTrue}
use Rattle.std.specs.Cmp.Lexicographic.{slice_cmp}
use Rattle.std.specs.List.{All, AllByRecursion, Contains}
use Rattle.std.specs.List.Sorted.{IsStrictlySortedBy}
use Rattle.std.specs.Map.{keys_of, lookup}
use Rattle.std.specs.Ordering.{nat_cmp, is_eq}
use Rattle.std.specs.Str.{bytes_eq}
use Rattle.std.proofs.lemmas.Bool.{both_ways, cases_Bool, false≢true}
use Rattle.std.proofs.lemmas.List.{map-id}
use Rattle.std.proofs.lemmas.Map.Text.{is_eq-slice_cmp}
use Rattle.std.proofs.lemmas.Slice.Eq.{bytes_eq-Decides}
use Rattle.store.specs.Listed.{AreTexts}
use Rattle.store.proofs.TextLemmas.{contains_first, contains_none, contains_other, contains_rest}
use Rattle.store_memory.specs.Slots.{IsStanding, standing_keys, flatten}
use Rattle.points.specs.Texts.{Text}

module _ {K X : Type 0} (f : K → Text) (stands : X → Bool) where
  above : (x : Text) (es : List (K × X)) → AllByRecursion (λ k. slice_cmp nat_cmp x (f k) ≡ Less) (keys_of es)
      → AllByRecursion (λ y. slice_cmp nat_cmp x y ≡ Less) (map f (standing_keys stands es))
  above x [] all = tt
  above x (e ∷ es) all =
      elim (stands e.1) as (λ b. AllByRecursion (λ y. slice_cmp nat_cmp x y ≡ Less) (map f (cond b (e.0 ∷ standing_keys stands es)
      (standing_keys stands es)))) [
        | true ↦ (all.0, above x es all.1)
        | false ↦ above x es all.1
      ]

  rises : (es : List (K × X)) → IsStrictlySortedBy (λ x y. slice_cmp nat_cmp (f x) (f y)) (keys_of es)
      → IsStrictlySortedBy (slice_cmp nat_cmp) (map f (standing_keys stands es))
  unfolding IsStrictlySortedBy
  rises [] sorted = tt
  rises (e ∷ es) sorted =
      elim (stands e.1) as (λ b. IsStrictlySortedBy (slice_cmp nat_cmp)
      (map f (cond b (e.0 ∷ standing_keys stands es) (standing_keys stands es)))) [
        | true ↦ (above (f e.0) es sorted.0, rises es sorted.1)
        | false ↦ rises es sorted.1
      ]

  abbrev finds : Text → List (K × X) → Option X
  finds text es = lookup (λ k. is_eq (slice_cmp nat_cmp text (f k))) es

  -- a text below all keys is not found
  not_found : (x : Text) (es : List (K × X)) → AllByRecursion (λ k. slice_cmp nat_cmp x (f k) ≡ Less) (keys_of es)
      → lookup (λ k. is_eq (slice_cmp nat_cmp x (f k))) es ≡ None
  not_found x [] all = refl
  not_found x (e ∷ es) all = rw all.0 (not_found x es all.1)

  found_first : (text : Text) (e : K × X) (rest : Option X) → f e.0 ≡ text
      → cond (is_eq (slice_cmp nat_cmp text (f e.0))) (Some e.1) rest ≡ Some e.1
  found_first text e rest same =
      let equal : bytes_eq text (f e.0) ≡ true = (bytes_eq-Decides text (f e.0)).1 (sym same) in
      rw (is_eq-slice_cmp text (f e.0), equal) refl

  found_later : (text : Text) (e : K × X) (rest : Option X) → bytes_eq text (f e.0) ≡ false
      → cond (is_eq (slice_cmp nat_cmp text (f e.0))) (Some e.1) rest ≡ rest
  found_later text e rest apart = rw (is_eq-slice_cmp text (f e.0), apart) refl

  abbrev Found : Text → List (K × X) → Type 0
  Found text es =
      Contains (map f (standing_keys stands es)) text ↔ IsStanding stands (lookup (λ k. is_eq (slice_cmp nat_cmp text (f k))) es)

  finds_each : (es : List (K × X)) → IsStrictlySortedBy (λ x y. slice_cmp nat_cmp (f x) (f y)) (keys_of es) → (text : Text) → Found text es
  unfolding IsStrictlySortedBy
  finds_each [] sorted text = ((λ here. contains_none text here), (λ none. absurd none))
  finds_each (e ∷ es) sorted text =
      let ks = standing_keys stands es in
      let later : Found text es = finds_each es sorted.1 text in
      elim (cases_Bool (bytes_eq text (f e.0))) [
        | inl equal ↦
            let same : text ≡ f e.0 = (bytes_eq-Decides text (f e.0)).0 equal in
            let gone : lookup (λ k. is_eq (slice_cmp nat_cmp text (f k))) es ≡ None =
            subst (λ x. lookup (λ k. is_eq (slice_cmp nat_cmp x (f k))) es ≡ None) (sym same) (not_found (f e.0) es sorted.0) in
            let out : Contains (map f ks) text → ⊥ = λ here. subst (IsStanding stands) gone (later.0 here) in
            let this : Contains (map f (standing_keys stands (e ∷ es))) text ↔ IsTrue (stands e.1) =
            elim (stands e.1) as (λ b. Contains (map f (cond b (e.0 ∷ ks) ks)) text ↔ IsTrue b) [
              | true ↦ ((λ here. refl), (λ is. subst (λ x. Contains (x ∷ map f ks) text) same (contains_first text (map f ks))))
              | false ↦ ((λ here. absurd (out here)), (λ is. absurd (false≢true is)))
            ] in
            subst (λ o. Contains (map f (standing_keys stands (e ∷ es))) text ↔ IsStanding stands o)
            (sym (found_first text e (finds text es) (sym same))) this
        | inr apart ↦
            let other : f e.0 ≡ text → ⊥ = λ same. both_ways (bytes_eq text (f e.0)) apart ((bytes_eq-Decides text (f e.0)).1 (sym same)) in
            let this : Contains (map f (standing_keys stands (e ∷ es))) text ↔ IsStanding stands (finds text es) =
            elim (stands e.1) as (λ b. Contains (map f (cond b (e.0 ∷ ks) ks)) text ↔ IsStanding stands (finds text es)) [
              | true ↦ (
                (λ here. later.0 (contains_other (f e.0) (map f ks) text other here)),
                (λ is. contains_rest (f e.0) (map f ks) text (later.1 is)),
              )
              | false ↦ later
            ] in
            subst (λ o. Contains (map f (standing_keys stands (e ∷ es))) text ↔ IsStanding stands o)
            (sym (found_later text e (finds text es) apart)) this
      ]

  -- the texts of the keys whose values stand
  pub AreTexts-standing : (es : List (K × X)) → IsStrictlySortedBy (λ x y. slice_cmp nat_cmp (f x) (f y)) (keys_of es)
      → AreTexts (λ text. IsStanding stands (lookup (λ k. is_eq (slice_cmp nat_cmp text (f k))) es)) (map f (standing_keys stands es))
  AreTexts-standing es sorted = record { rise = rises es sorted; each = finds_each es sorted }

-- names that were collected
pub AreTexts-names : {X : Type 0} (stands : X → Bool) (names : List Text) (rest es : List
    (Text × X)) → names ++ standing_keys stands rest ≡ standing_keys stands es
    → rest ≡ [] → IsStrictlySortedBy (slice_cmp nat_cmp) (keys_of es)
    → AreTexts (λ text. IsStanding stands (lookup (λ k. is_eq (slice_cmp nat_cmp text k)) es)) names
AreTexts-names stands names rest es is none sorted =
    let whole : names ≡ standing_keys stands es = sym (append-nil names) ∙ ap (λ r. names ++ standing_keys stands r) (sym none) ∙ is in
    subst (AreTexts (λ text. IsStanding stands (lookup (λ k. is_eq (slice_cmp nat_cmp text k)) es)))
    (map-id (standing_keys stands es) ∙ sym whole)
    (AreTexts-standing (λ x. x) stands es sorted)

-- the same texts by another account of them
pub AreTexts-by : (P Q : Text → Type 0) (texts : List Text) → ((text : Text) → P text ↔ Q text) → AreTexts P texts → AreTexts Q texts
AreTexts-by P Q texts alike are = record {
  rise = are.rise;
  each = λ text. ((λ here. (alike text).0 ((are.each text).0 here)), (λ holds. (are.each text).1 ((alike text).1 holds)));
}

pub AreTexts-none : (P : Text → Type 0) → ((text : Text) → P text → ⊥) → AreTexts P []
unfolding IsStrictlySortedBy
AreTexts-none P none = record {
  rise = tt;
  each = λ text. ((λ here. absurd (contains_none text here)), (λ holds. absurd (none text holds)));
}

-- what stands in a table whose entries are options
pub standing_some : {A : Type 0} (o : Option (Option A)) → IsStanding is_some o ↔ IsTrue (is_some (flatten o))
standing_some None = ((λ none. absurd none), (λ is. absurd (false≢true is)))
standing_some (Some slot) = ((λ is. is), (λ is. is))

-- what the entries of a table hold, in order
abbrev pub kept : {K X : Type 0} → List (K × Option X) → List X
kept [] = []
kept (e ∷ es) = option_to_list e.1 ++ kept es

-- where each stands under its text, their texts are the keys' texts
pub texts-kept : {K X : Type 0} (f : K → Text) (spell : X → Text) (es : List (K × Option X))
    → All (λ e. IfSome e.1 (λ x. spell x ≡ f e.0)) es
    → map spell (kept es) ≡ map f (standing_keys is_some es)
texts-kept f spell [] all = refl
texts-kept f spell ((k, None) ∷ es) all = texts-kept f spell es (λ n d within. all (suc n) d (omega arith))
texts-kept f spell ((k, Some x) ∷ es) all =
    let first : spell x ≡ f k = all 0 (k, Some x) (omega arith) in
    let rest = texts-kept f spell es (λ n d within. all (suc n) d (omega arith)) in
    λ i. first i ∷ rest i
