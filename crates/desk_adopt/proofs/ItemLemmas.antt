-- What a list of items makes, with one item more.
use Rattle.std.proofs.Common.{◌≡◌, ◌≢◌, ◌⊎◌, inl, inr, ℕ, ◌+◌, ◌<◌, ◌==◌, ◌||◌, ◌&&◌, not, ◌++◌, Bool, true, false, cond, List, [], ◌∷◌, length, get_or, take, Option, Some, None, refl, sym, ap, ◌∙◌}
use Rattle.std.specs.List.{list_any}
use Rattle.std.specs.Str.{bytes_eq}
use Rattle.std.proofs.lemmas.Bool.{cases_Bool}
use Rattle.std.proofs.lemmas.Bool.Decides.{Decides-eqb}
use Rattle.std.proofs.lemmas.List.{take_more}
use Rattle.std.proofs.lemmas.List.Folds.{list_any-append}
use Rattle.std.proofs.lemmas.Slice.Eq.{bytes_eq-Decides}
use Rattle.store_copy.specs.Named.{or_else}
use Rattle.desk_adopt.specs.Renamed.{at_items}
use Rattle.desk_adopt.specs.Adopted.{no_next}
use Rattle.store.specs.Change.{with_each, with_next}
use Rattle.store.specs.declared.change.NextNumber.{NextNumber}
use Rattle.points.specs.Texts.{Text}

pub with_each-append : {Item Table : Type 0} (put_item : Item → Table → Table) (items more : List Item) (table : Table)
    → with_each put_item (items ++ more) table ≡ with_each put_item more (with_each put_item items table)
with_each-append put_item [] more table = refl
with_each-append put_item (item ∷ items) more table = with_each-append put_item items more (put_item item table)

or_swap : (a b : Bool) → (a || (b || false)) ≡ (b || a)
or_swap true true = refl
or_swap true false = refl
or_swap false true = refl
or_swap false false = refl

any-taken : {X : Type 0} (test : X → Bool) (items : List X) (i : ℕ) (item : X) → i < length items → item ≡ get_or items i item
    → list_any test (take (i + 1) items) ≡ (test item || list_any test (take i items))
any-taken test items i item within is =
    ap (list_any test) (take_more items i item within ∙ ap (λ n. take i items ++ n ∷ []) (sym is))
    ∙ list_any-append test (take i items) (item ∷ []) ∙ or_swap (list_any test (take i items)) (test item)

by_case : {A : Type 0} (a : Bool) (table none old : A) → old ≡ cond a table none → (old ≡ table) ⊎ (old ≡ none)
by_case true table none old was = inl was
by_case false table none old was = inr was

-- a table at the names of one item more
pub items-step : {A X : Type 0} (name_of : X → Text) (items : List X) (table : Text → A) (none : A) (i : ℕ) (item : X) (old now : Text → A)
    → i < length items → item ≡ get_or items i item
    → ((q : Text) → old q ≡ at_items name_of (take i items) table none q)
    → ((q : Text) → bytes_eq (name_of item) q ≡ false → now q ≡ old q)
    → ((q : Text) → bytes_eq (name_of item) q ≡ true → (old q ≡ table q) ⊎ (old q ≡ none) → now q ≡ table q)
    → (q : Text) → now q ≡ at_items name_of (take (i + 1) items) table none q
items-step name_of items table none i item old now within is was elsewhere here q =
    let before = list_any (λ it. bytes_eq (name_of it) q) (take i items) in
    let any = any-taken (λ it. bytes_eq (name_of it) q) items i item within is in
    elim (cases_Bool (bytes_eq (name_of item) q)) [
      | inl same ↦
          here q same (by_case before (table q) none (old q) (was q))
          ∙ sym (ap (λ b. cond b (table q) none) (any ∙ ap (λ b. b || before) same))
      | inr other ↦
          elsewhere q other ∙ was q
          ∙ sym (ap (λ b. cond b (table q) none) (any ∙ ap (λ b. b || before) other))
    ]

pub same_name : (name q : Text) → bytes_eq name q ≡ true → name ≡ q
same_name name q same = (bytes_eq-Decides name q).0 same

-- ---- what stood there, or nothing, and something put before it

pub or_else-here : {A : Type 0} (here old : Option A) → (old ≡ here) ⊎ (old ≡ None) → or_else here old ≡ here
or_else-here (Some x) old was = refl
or_else-here None old (inl is) = is
or_else-here None old (inr is) = is

pub or-here : (here old : Bool) → (old ≡ here) ⊎ (old ≡ false) → (here || old) ≡ here
or-here true old was = refl
or-here false old (inl is) = is
or-here false old (inr is) = is

pub next-here : (next here old : ℕ) → next ≡ here → (old ≡ here) ⊎ (old ≡ 1)
    → cond (true && not (next == 1)) next old ≡ here
next-here next here old is was = elim (cases_Bool (next == 1)) [
  | inl one ↦ ap (λ b. cond (not b) next old) one ∙ first one was
  | inr more ↦ ap (λ b. cond (not b) next old) more ∙ is
]
  where
    first : (next == 1) ≡ true → (old ≡ here) ⊎ (old ≡ 1) → old ≡ here
    first one (inl same) = same
    first one (inr none) = none ∙ sym ((Decides-eqb next 1).0 one) ∙ is

-- a next number more
pub next-more : (items : List NextNumber) (panel : Text) (next : ℕ) (q : Text) → next ≢ 1
    → with_each with_next (items ++ record { panel = panel; next = next } ∷ []) no_next q
    ≡ cond (bytes_eq panel q && not (next == 1)) next (with_each with_next items no_next q)
next-more items panel next q more =
    ap (λ (f : Text → ℕ). f q) (with_each-append with_next items (record { panel = panel; next = next } ∷ []) no_next)
    ∙ by (bytes_eq panel q)
  where
    by : (b : Bool) → cond b next (with_each with_next items no_next q) ≡ cond (b && not (next == 1)) next (with_each with_next items no_next q)
    by true = elim (cases_Bool (next == 1)) [
      | inl one ↦ absurd (more ((Decides-eqb next 1).0 one))
      | inr other ↦ sym (ap (λ b. cond (not b) next (with_each with_next items no_next q)) other)
    ]
    by false = refl
