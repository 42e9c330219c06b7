-- What a query in the order of a column answers, and of it a beginning.
use Rattle.std.proofs.Common.{◌≡◌, ◌≤◌, ◌+◌, ◌++◌, ℕ, pos, negsuc, Bool, true, false, List, [], ◌∷◌, filter, map, inl, inr, refl, sym, ap, ◌∙◌, subst, arith, true≢false, nat_lt, not, int_cmp}
use native.Mathlib.Numerals.{unary_clauses}
use Rattle.std.specs.List.Sorted.{IsPermutation, IsSortedBy}
use Rattle.std.specs.Ordering.{is_lt}
use Rattle.std.proofs.lemmas.Bool.{cases_Bool, eqb-true, ltb-false}
use Rattle.std.proofs.lemmas.List.Sorted.{IsPermutation-map, sorted_far}
use Rattle.std.proofs.lemmas.List.MinMax.{ranks_by}
use Rattle.sqlite_rules.specs.Lists.{Has}
use Rattle.sqlite_rules.proofs.ListLemmas.{all_from, all_has, contains_had}
use Rattle.sqlite_rules.proofs.ProbeLemmas.{has_mapped}
use Rattle.sqlite_trees.specs.Tree.{Trees}
use Rattle.sqlite_trees.proofs.ListLemmas.{all-permutation}
use Rattle.sqlite_value.specs.declared.value.Value.{Value}
use Rattle.sqlite_value.specs.declared.value.Value.TheVariants.{Blob, Int, Null, Real, Text}
use Rattle.sqlite_value.specs.Order.{Row, column, value_cmp}
use Rattle.sqlite_value.proofs.OrderLemmas.{then-Equal, value_cmp-Int, value_cmp_total}
use Rattle.sqlite_sql.specs.Program.{IsProgramAnswer, IsProgramStart, overlay}
use Rattle.sqlite_sql.specs.Query.{IsAnswer, Output, Query, output, output_cmp}
use Rattle.sqlite_sql.specs.Term.{Term, col}
use Rattle.store_sql_rows.specs.Cells.{is_count}
use Rattle.store_sql_rows.specs.Looking.{is_from, last_shown, number_or_0, number_shown}
use Rattle.store_sql_rows.specs.Meanings.{ordered_query, passes, shows}
use Rattle.store_sql_rows.proofs.AnswerLemmas.{flat_map_cond, map_map, overlay_none}

-- ---- lists whose keys do not fall

abbrev pub Rises : {X : Type 0} → (X → Value) → List X → Type 0
Rises key [] = Unit {0}
Rises {X} key (x ∷ xs) = ((y : X) → Has xs y → is_lt (value_cmp (key y) (key x)) ≡ false) × Rises key xs

module _ {X : Type 0} (key : X → Value) where
  rises-first : (x : X) (xs : List X) → IsSortedBy (λ a b. is_lt (value_cmp (key a) (key b))) (x ∷ xs) → (y : X) → Has xs y
      → is_lt (value_cmp (key y) (key x)) ≡ false
  rises-first x xs sorted y h =
      let at = contains_had (x ∷ xs) y (inr h) in
      let far =
      sorted_far (λ a b. is_lt (value_cmp (key a) (key b))) (ranks_by value_cmp_total key) (x ∷ xs) sorted 0 at.0 y (omega arith) at.1 in
      subst (λ z. is_lt (value_cmp (key z) (key x)) ≡ false) at.2 far

  pub rises-sorted : (xs : List X) → IsSortedBy (λ a b. is_lt (value_cmp (key a) (key b))) xs → Rises key xs
  rises-sorted [] sorted = tt
  rises-sorted (x ∷ xs) sorted = (
    rises-first x xs sorted,
    rises-sorted xs (λ k d low high.
        simp unary_clauses (simp unary_clauses at (sorted (k + 1) d (omega arith) (omega (arith, high))))),
  )

  pub rises-behind : (xs ys : List X) → Rises key (xs ++ ys) → Rises key ys
  rises-behind [] ys rises = rises
  rises-behind (x ∷ xs) ys rises = rises-behind xs ys rises.1

pub has-before : {X : Type 0} (xs ys : List X) (x : X) → Has xs x → Has (xs ++ ys) x
has-before [] ys x none = absurd none
has-before (y ∷ xs) ys x (inl same) = inl same
has-before (y ∷ xs) ys x (inr h) = inr (has-before xs ys x h)

pub has-behind : {X : Type 0} (xs ys : List X) (x : X) → Has ys x → Has (xs ++ ys) x
has-behind [] ys x h = h
has-behind (y ∷ xs) ys x h = inr (has-behind xs ys x h)

pub rises-front : {X : Type 0} (key : X → Value) (xs ys : List X) → Rises key (xs ++ ys) → Rises key xs
rises-front key [] ys rises = tt
rises-front key (x ∷ xs) ys rises = (λ y h. rises.0 y (has-before xs ys y h), rises-front key xs ys rises.1)

rises-mapped : {X Y : Type 0} (key : X → Value) (other : Y → Value) (f : X → Y) (xs : List X)
    → ((x : X) → Has xs x → key x ≡ other (f x)) → Rises key xs → Rises other (map f xs)
rises-mapped key other f [] same rises = tt
rises-mapped key other f (x ∷ xs) same rises = (
  λ y h.
      let from = has_mapped f xs y h in
      subst (λ v. is_lt (value_cmp v (other (f x))) ≡ false) (same from.0 (inr from.1) ∙ ap other (sym from.2))
      (subst (λ v. is_lt (value_cmp (key from.0) v) ≡ false) (same x (inl refl)) (rises.0 from.0 from.1)),
  rises-mapped key other f xs (λ z h. same z (inr h)) rises.1,
)

pub has_permuted : {X : Type 0} (xs ys : List X) (x : X) → IsPermutation xs ys → Has ys x → Has xs x
has_permuted xs ys x same = all_has (Has xs) ys x (all-permutation (Has xs) xs ys same (all_from (Has xs) xs (λ e h. h)))

-- ---- the answer

module _ (tree : ℕ) (terms : List Term) (at : ℕ) (project : List Term) (db : Trees) (params : Row) (rows : List Row)
    (answer : IsAnswer (ordered_query tree terms at project) db params rows) where
  abbrev q : Query
  q = ordered_query tree terms at project

  abbrev env : Row → List Row
  env row = params ∷ row ∷ []

  abbrev made : Row → Output
  made row = output q (env row)

  abbrev picked : List Row
  picked = filter (passes terms params) (db tree)

  kept : answer.kept ≡ map made picked
  kept =
      answer.distinct ∙ ap (map (output q)) (answer.grouped ∙ flat_map_cond (passes terms params) env (db tree))
      ∙ map_map (output q) env picked

  shown : rows ≡ map (λ (o : Output). o.1) answer.ordered
  shown = answer.shown

  pub ordered_permuted : IsPermutation (map (shows (col 1 at ∷ project) params) picked) rows
  ordered_permuted =
      let are : map (λ (o : Output). o.1) answer.kept ≡ map (shows (col 1 at ∷ project) params) picked =
      ap (map (λ (o : Output). o.1)) kept ∙ map_map (λ (o : Output). o.1) made picked in
      subst (λ l. IsPermutation (map (shows (col 1 at ∷ project) params) picked) l) (sym shown)
      (subst (λ l. IsPermutation l (map (λ (o : Output). o.1) answer.ordered)) are
      (IsPermutation-map (λ (o : Output). o.1) answer.kept answer.ordered answer.same))

  abbrev first_key : Output → Value
  first_key o = column o.0 0

  by_first : (x y : Output) → output_cmp q x y ≡ value_cmp (first_key x) (first_key y)
  by_first x y = then-Equal _

  key_shown : (o : Output) → Has answer.ordered o → first_key o ≡ column o.1 0
  key_shown o h =
      let there = subst (λ l. Has l o) kept (has_permuted answer.kept answer.ordered o answer.same h) in
      let row = has_mapped made picked o there in
      ap first_key row.2 ∙ ap (λ (p : Output). column p.1 0) (sym row.2)

  pub ordered_rises : Rises (λ row. column row 0) rows
  ordered_rises =
      let sorted : IsSortedBy (λ x y. is_lt (value_cmp (first_key x) (first_key y))) answer.ordered =
      subst (λ (f : Output → Output → Bool). IsSortedBy f answer.ordered) (λ i x y. is_lt (by_first x y i)) answer.sorted in
      subst (Rises (λ row. column row 0)) (sym shown)
      (rises-mapped first_key (λ row. column row 0) (λ (o : Output). o.1) answer.ordered key_shown
      (rises-sorted first_key answer.ordered sorted))

-- the rows that pass, shown in an order in which the first cells do not fall
pub record AreInOrder (picked : List Row) (show : Row → Row) (rows : List Row) : Type 0 where
  pub shown : IsPermutation (map show picked) rows
  pub rises : Rises (λ row. column row 0) rows

module _ (tree : ℕ) (terms : List Term) (at : ℕ) (project : List Term) (db : Trees) (params : Row) where
  in_order : (rows : List Row) → IsAnswer (ordered_query tree terms at project) (overlay db []) params rows
      → AreInOrder (filter (passes terms params) (db tree)) (shows (col 1 at ∷ project) params) rows
  in_order rows answer =
      subst (λ l. AreInOrder (filter (passes terms params) l) (shows (col 1 at ∷ project) params) rows) (overlay_none db tree)
      (record {
        shown = ordered_permuted tree terms at project (overlay db []) params rows answer;
        rises = ordered_rises tree terms at project (overlay db []) params rows answer;
      })

  pub whole_in_order : (rows : List Row) → IsProgramAnswer [] (ordered_query tree terms at project) db params rows
      → AreInOrder (filter (passes terms params) (db tree)) (shows (col 1 at ∷ project) params) rows
  whole_in_order rows answer = in_order rows (answer Null)

  pub start_in_order : (rows : List Row) → IsProgramStart [] (ordered_query tree terms at project) db params rows
      → (tail : List Row) × AreInOrder (filter (passes terms params) (db tree)) (shows (col 1 at ∷ project) params) (rows ++ tail)
  start_in_order rows (tail, answer) = (tail, in_order (rows ++ tail) (answer Null))

-- ---- numbers

not_less : (m n : ℕ) → is_lt (value_cmp (Int (pos m)) (Int (pos n))) ≡ false → n ≤ m
not_less m n is = elim (cases_Bool (nat_lt m n)) [
  | inl less ↦
      let cmp : is_lt (int_cmp (pos m) (pos n)) ≡ false = ap is_lt (sym (value_cmp-Int (pos m) (pos n))) ∙ is in
      absurd (true≢false (rw less at cmp))
  | inr more ↦ ltb-false m n more
]

-- a cell from a number on
abbrev pub IsNumbered : ℕ → Row → Type 0
IsNumbered from row = (column row 0 ≡ Int (pos (number_shown row))) × (from ≤ number_shown row)

pub numbered-cell : (from : ℕ) (v : Value) → is_from from v ≡ true → (v ≡ Int (pos (number_or_0 v))) × (from ≤ number_or_0 v)
numbered-cell from (Int (pos n)) is = (
  refl,
  elim (cases_Bool (nat_lt n from)) [
    | inl less ↦ absurd (true≢false (sym is ∙ ap not less))
    | inr more ↦ ltb-false n from more
  ],
)
numbered-cell from (Int (negsuc n)) is = absurd (true≢false (sym is))
numbered-cell from Null is = absurd (true≢false (sym is))
numbered-cell from (Real x) is = absurd (true≢false (sym is))
numbered-cell from (Text t) is = absurd (true≢false (sym is))
numbered-cell from (Blob b) is = absurd (true≢false (sym is))

pub counted : (number : ℕ) (v : Value) → is_count number v ≡ true → number ≡ number_or_0 v
counted number (Int (pos n)) is = eqb-true number n is
counted number (Int (negsuc n)) is = absurd (true≢false (sym is))
counted number Null is = absurd (true≢false (sym is))
counted number (Real x) is = absurd (true≢false (sym is))
counted number (Text t) is = absurd (true≢false (sym is))
counted number (Blob b) is = absurd (true≢false (sym is))

pub rises-numbers : (x y : Row) (from : ℕ) → IsNumbered from x → IsNumbered from y
    → is_lt (value_cmp (column y 0) (column x 0)) ≡ false → number_shown x ≤ number_shown y
rises-numbers x y from is_x is_y not_below =
    not_less (number_shown y) (number_shown x)
    (subst (λ v. is_lt (value_cmp v (Int (pos (number_shown x)))) ≡ false) is_y.0
    (subst (λ v. is_lt (value_cmp (column y 0) v) ≡ false) is_x.0 not_below))

-- the last number is the greatest
pub last-greatest : (from last : ℕ) (rows : List Row) → Rises (λ row. column row 0) rows
    → ((row : Row) → Has rows row → IsNumbered from row) → (row : Row) → Has rows row → number_shown row ≤ last_shown last rows
last-greatest from last [] rises are row none = absurd none
last-greatest from last (x ∷ []) rises are row (inl same) = subst (λ r. number_shown row ≤ number_shown r) same (omega arith)
last-greatest from last (x ∷ []) rises are row (inr none) = absurd none
last-greatest from last (x ∷ y ∷ rows) rises are row (inl same) =
    let behind = last-greatest from (number_shown x) (y ∷ rows) rises.1 (λ r h. are r (inr h)) y (inl refl) in
    let step : number_shown x ≤ number_shown y =
    rises-numbers x y from (are x (inl refl)) (are y (inr (inl refl))) (rises.0 y (inl refl)) in
    let here : number_shown row ≡ number_shown x = ap number_shown same in
    omega (arith, behind, step, here)
last-greatest from last (x ∷ y ∷ rows) rises are row (inr h) =
    last-greatest from (number_shown x) (y ∷ rows) rises.1 (λ r g. are r (inr g)) row h

pub last-from : (from last : ℕ) (rows : List Row) → from ≤ last + 1 → ((row : Row) → Has rows row → IsNumbered from row)
    → from ≤ last_shown last rows + 1
last-from from last [] low are = low
last-from from last (x ∷ rows) low are =
    last-from from (number_shown x) rows (let at = (are x (inl refl)).1 in omega (arith, at)) (λ r h. are r (inr h))
