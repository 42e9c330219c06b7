-- What an answer of rows says of the rows that it shows.
use Rattle.std.proofs.Common.{◌≡◌, List, [], ◌∷◌, filter, map, length, Bool, true, ◌≤◌, refl, sym, ap, ◌∙◌, arith}
use Rattle.std.specs.List.Sorted.{IsPermutation}
use Rattle.std.proofs.lemmas.List.Sorted.{IsPermutation-sym, length_permutation}
use Rattle.sqlite_rules.specs.Lists.{Has}
use Rattle.sqlite_rules.proofs.ListLemmas.{all_from, all_has, has_filtered, has_kept}
use Rattle.sqlite_rules.proofs.ProbeLemmas.{has_mapped, mapped_has}
use Rattle.sqlite_trees.proofs.ListLemmas.{all-permutation}
use Rattle.sqlite.proofs.Callers.{one_permutation}
use Rattle.sqlite_value.specs.Order.{Row}
use Rattle.store_sql_rows.specs.Looking.{Finds}
use Rattle.store_sql.specs.Leaving.{AreSeveral}

has_permuted : (rows answer : List Row) (row : Row) → IsPermutation rows answer → Has answer row → Has rows row
has_permuted rows answer row same =
    all_has (Has rows) answer row (all-permutation (Has rows) rows answer same (all_from (Has rows) rows (λ e here. here)))

module _ (pick : Row → Bool) (show : Row → Row) where
  none_from : (picked answer : List Row) → IsPermutation (map show picked) answer → answer ≡ [] → picked ≡ []
  none_from [] answer same none = refl
  none_from (x ∷ xs) answer same none = absurd (omega (arith, length_permutation (map show (x ∷ xs)) answer same, ap length none))

  pub found_none : (rows answer : List Row) → Finds pick show rows answer → answer ≡ [] → filter pick rows ≡ []
  found_none rows answer found none = none_from (filter pick rows) answer found.shown none

  one_from : (picked answer : List Row) (shown : Row) → IsPermutation (map show picked) answer → answer ≡ shown ∷ []
      → (row : Row) × (picked ≡ row ∷ []) × (shown ≡ show row)
  one_from [] answer shown same one = absurd (omega (arith, length_permutation (map show []) answer same, ap length one))
  one_from (x ∷ []) answer shown same one =
      let whole : answer ≡ show x ∷ [] = one_permutation (show x) answer same in
      (x, refl, (let both : shown ∷ [] ≡ show x ∷ [] = sym one ∙ whole in cc))
  one_from (x ∷ y ∷ xs) answer shown same one =
      absurd (omega (arith, length_permutation (map show (x ∷ y ∷ xs)) answer same, ap length one))

  pub found_one : (rows answer : List Row) (shown : Row) → Finds pick show rows answer → answer ≡ shown ∷ []
      → (row : Row) × (filter pick rows ≡ row ∷ []) × (shown ≡ show row)
  found_one rows answer shown found one = one_from (filter pick rows) answer shown found.shown one

  two_from : (picked answer : List Row) (a b : Row) (more : List Row) → IsPermutation (map show picked) answer → answer ≡ a ∷ b ∷ more
      → (x : Row) × (y : Row) × (others : List Row) × (picked ≡ x ∷ y ∷ others)
  two_from [] answer a b more same two = absurd (omega (arith, length_permutation (map show []) answer same, ap length two))
  two_from (x ∷ []) answer a b more same two = absurd (omega (arith, length_permutation (map show (x ∷ [])) answer same, ap length two))
  two_from (x ∷ y ∷ xs) answer a b more same two = (x, y, xs, refl)

  pub found_two : (rows answer : List Row) (a b : Row) (more : List Row) → Finds pick show rows answer → answer ≡ a ∷ b ∷ more
      → (x : Row) × (y : Row) × (others : List Row) × (filter pick rows ≡ x ∷ y ∷ others)
  found_two rows answer a b more found two = two_from (filter pick rows) answer a b more found.shown two

  -- a row of the answer shows a row that is picked
  pub found_origin : (rows answer : List Row) (shown : Row) → Finds pick show rows answer → Has answer shown
      → (row : Row) × Has rows row × (pick row ≡ true) × (shown ≡ show row)
  found_origin rows answer shown found had =
      let from = has_mapped show (filter pick rows) shown (has_permuted (map show (filter pick rows)) answer shown found.shown had) in
      let is = has_filtered pick rows from.0 from.1 in
      (from.0, is.0, is.1, from.2)

  -- a row that is picked is shown
  pub found_shown : (rows answer : List Row) (row : Row) → Finds pick show rows answer → Has rows row → pick row ≡ true
      → Has answer (show row)
  found_shown rows answer row found here is =
      has_permuted answer (map show (filter pick rows)) (show row) (IsPermutation-sym _ _ found.shown)
      (mapped_has show (filter pick rows) row (has_kept pick rows row here is))

pub several_of : (rows : List Row) → 2 ≤ length rows → AreSeveral rows
several_of [] long = absurd (omega (arith, long))
several_of (a ∷ []) long = absurd (omega (arith, long))
several_of (a ∷ b ∷ more) long = record { first = a; second = b; more = more; is = refl }
