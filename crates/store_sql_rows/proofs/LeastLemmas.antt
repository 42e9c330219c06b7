-- What a query for the least row answers.
use Rattle.std.proofs.Common.{◌≡◌, ℕ, Bool, true, false, List, [], ◌∷◌, filter, map, inl, length, take, refl, sym, ap, ◌∙◌, subst, arith, Ordering}
use Rattle.std.specs.List.Sorted.{IsPermutation, IsSorted, IsSortedBy}
use Rattle.std.specs.Ordering.{is_lt}
use Rattle.std.proofs.lemmas.List.Sorted.{IsPermutation-sym, length_permutation, sorted_far}
use Rattle.std.proofs.lemmas.List.MinMax.{ranks_by}
use Rattle.sqlite_rules.specs.Lists.{Has}
use Rattle.sqlite_rules.proofs.ListLemmas.{all_from, all_has, contains_had, has_filtered, has_kept}
use Rattle.sqlite_rules.proofs.ProbeLemmas.{has_mapped, mapped_has}
use Rattle.sqlite_trees.specs.Tree.{Trees}
use Rattle.sqlite_trees.proofs.ListLemmas.{all-permutation}
use Rattle.sqlite_value.specs.declared.value.Value.{Value}
use Rattle.sqlite_value.specs.declared.value.Value.TheVariants.{Null}
use Rattle.sqlite_value.specs.Order.{Row, column, value_cmp}
use Rattle.sqlite_value.proofs.OrderLemmas.{then-Equal, value_cmp_total}
use Rattle.sqlite_sql.specs.Program.{IsProgramAnswer, overlay}
use Rattle.sqlite_sql.specs.Query.{IsAnswer, Output, output, output_cmp}
use Rattle.sqlite_sql.specs.Term.{Term}
use Rattle.store_sql_rows.specs.Looking.{FindsLeast}
use Rattle.store_sql_rows.specs.Meanings.{least_query, passes}
use Rattle.store_sql_rows.proofs.AnswerLemmas.{flat_map_cond, map_map, overlay_none}

has_permuted : {X : Type 0} (xs ys : List X) (x : X) → IsPermutation xs ys → Has ys x → Has xs x
has_permuted xs ys x same = all_has (Has xs) ys x (all-permutation (Has xs) xs ys same (all_from (Has xs) xs (λ e h. h)))

abbrev first_key : Output → Value
first_key o = column o.0 0

empty_permuted : {X : Type 0} (xs ys : List X) → IsPermutation xs ys → ys ≡ [] → xs ≡ []
empty_permuted [] ys same none = refl
empty_permuted (x ∷ xs) ys same none = absurd (omega (arith, length_permutation (x ∷ xs) ys same, ap length none))

mapped_empty : {X Y : Type 0} (f : X → Y) (xs : List X) → map f xs ≡ [] → xs ≡ []
mapped_empty f [] none = refl
mapped_empty f (x ∷ xs) none = absurd (omega (arith, ap length none))

-- the first of a sorted list is not above any
first_is_least : (lt : Output → Output → Ordering) (o : Output) (rest : List Output) → IsSorted lt (o ∷ rest)
    → ((x y : Output) → lt x y ≡ value_cmp (first_key x) (first_key y))
    → (other : Output) → Has (o ∷ rest) other → is_lt (value_cmp (first_key other) (first_key o)) ≡ false
first_is_least lt o rest sorted is other h =
    let at = contains_had (o ∷ rest) other h in
    let by_key : IsSortedBy (λ x y. is_lt (value_cmp (first_key x) (first_key y))) (o ∷ rest) =
    subst (λ (f : Output → Output → Bool). IsSortedBy f (o ∷ rest)) (λ i x y. is_lt (is x y i)) sorted in
    let far =
    sorted_far (λ x y. is_lt (value_cmp (first_key x) (first_key y))) (ranks_by value_cmp_total first_key) (o ∷ rest) by_key 0
    at.0 other (omega arith) at.1 in
    subst (λ x. is_lt (value_cmp (first_key x) (first_key o)) ≡ false) at.2 far

module _ (tree : ℕ) (terms : List Term) (at : ℕ) (db : Trees) (params : Row) (rows : List Row)
    (answer : IsAnswer (least_query tree terms at) db params rows) where
  abbrev env : Row → List Row
  env row = params ∷ row ∷ []

  abbrev made : Row → Output
  made row = output (least_query tree terms at) (env row)

  abbrev picked : List Row
  picked = filter (passes terms params) (db tree)

  kept : answer.kept ≡ map made picked
  kept =
      answer.distinct ∙ ap (map (output (least_query tree terms at)))
      (answer.grouped ∙ flat_map_cond (passes terms params) env (db tree)) ∙ map_map (output (least_query tree terms at)) env picked

  by_first : (x y : Output) → output_cmp (least_query tree terms at) x y ≡ value_cmp (first_key x) (first_key y)
  by_first x y = then-Equal _

  made_of : (o : Output) → Has answer.ordered o → (row : Row) × Has (db tree) row × (passes terms params row ≡ true) × (o ≡ made row)
  made_of o h =
      let there = subst (λ l. Has l o) kept (has_permuted answer.kept answer.ordered o answer.same h) in
      let row = has_mapped made picked o there in
      let had = has_filtered (passes terms params) (db tree) row.0 row.1 in
      (row.0, had.0, had.1, row.2)

  ordered_made : (row : Row) → Has (db tree) row → passes terms params row ≡ true → Has answer.ordered (made row)
  ordered_made row h passes_it =
      let there = mapped_has made picked row (has_kept (passes terms params) (db tree) row h passes_it) in
      has_permuted answer.ordered answer.kept (made row) (IsPermutation-sym _ _ answer.same)
      (subst (λ l. Has l (made row)) (sym kept) there)

  of_ordered : (ordered : List Output) → ordered ≡ answer.ordered → FindsLeast (passes terms params) at (db tree) rows
  of_ordered [] is = record {
    none = λ _. mapped_empty made picked (sym kept ∙ empty_permuted answer.kept answer.ordered answer.same (sym is));
    some =
        λ shown more shows_it. absurd (omega (
          arith,
          ap length
              (sym shows_it ∙ answer.shown ∙ ap (λ l. take 1 (map (λ (o : Output). o.1) l)) (sym is)),
        ));
  }
  of_ordered (o ∷ rest) is =
      let whole : rows ≡ o.1 ∷ [] = answer.shown ∙ ap (λ l. take 1 (map (λ (p : Output). p.1) l)) (sym is) in
      let from = made_of o (subst (λ l. Has l o) is (inl refl)) in
      record {
        none = λ none. absurd (omega (arith, ap length (sym whole ∙ none)));
        some = λ shown more shows_it.
            let same : shown ∷ more ≡ o.1 ∷ [] = sym shows_it ∙ whole in
            let first : shown ≡ o.1 = cc in
            let last : more ≡ [] = cc in (
              from.0,
              from.1,
              from.2,
              first ∙ ap (λ (p : Output). p.1) from.3,
              last,
              λ other h passes_it.
                  let lowest =
                  first_is_least (output_cmp (least_query tree terms at)) o rest
                  (subst (IsSorted (output_cmp (least_query tree terms at))) (sym is) answer.sorted) by_first (made other)
                  (subst (λ l. Has l (made other)) (sym is) (ordered_made other h passes_it)) in
                  subst (λ v. is_lt (value_cmp (column other at) v) ≡ false) (ap first_key from.3) lowest,
            );
      }

  pub least_answer : FindsLeast (passes terms params) at (db tree) rows
  least_answer = of_ordered answer.ordered refl

pub least_program : (tree : ℕ) (terms : List Term) (at : ℕ) (db : Trees) (params : Row) (rows : List Row)
    → IsProgramAnswer [] (least_query tree terms at) db params rows
    → FindsLeast (passes terms params) at (db tree) rows
least_program tree terms at db params rows answer =
    subst (λ l. FindsLeast (passes terms params) at l rows) (overlay_none db tree)
    (least_answer tree terms at (overlay db []) params rows (answer Null))
