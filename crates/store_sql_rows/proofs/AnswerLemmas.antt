-- What the answer of a query on one table is.
use Rattle.std.proofs.Common.{◌≡◌, ℕ, ◌-◌, ◌^◌, nat_le, if◌then◌else◌, Bool, true, false, cond, None, slice_get, unwrap_or, List, [], ◌∷◌, ◌++◌, map, filter, flat_map, refl, sym, ap, ◌∙◌, subst}
use Rattle.std.specs.List.Sorted.{IsPermutation}
use Rattle.std.proofs.lemmas.List.Sorted.{IsPermutation-map}
use Rattle.sqlite_value.specs.declared.value.Value.TheVariants.{Null}
use Rattle.sqlite_value.specs.Order.{Row}
use Rattle.sqlite_trees.specs.Tree.{Trees}
use Rattle.sqlite_sql.specs.Query.{IsAnswer, Output, output}
use Rattle.sqlite_sql.specs.Program.{IsProgramAnswer, overlay}
use Rattle.sqlite_sql.specs.Term.{Term}
use Rattle.store_sql_rows.specs.Meanings.{plain_query, passes, shows}

pub flat_map_cond : {X Y : Type 0} (p : X → Bool) (f : X → Y) (xs : List X)
    → flat_map (λ x. cond (p x) (f x ∷ []) []) xs ≡ map f (filter p xs)
flat_map_cond p f [] = refl
flat_map_cond p f (x ∷ xs) =
    elim (p x) as (λ b. cond b (f x ∷ []) [] ++ flat_map (λ y. cond (p y) (f y ∷ []) []) xs
    ≡ map f (cond b (x ∷ filter p xs) (filter p xs)))
    [ true ↦ ap (λ l. f x ∷ l) (flat_map_cond p f xs) | false ↦ flat_map_cond p f xs ]

pub map_map : {X Y Z : Type 0} (f : Y → Z) (g : X → Y) (xs : List X) → map f (map g xs) ≡ map (λ x. f (g x)) xs
map_map f g [] = refl
map_map f g (x ∷ xs) = ap (λ l. f (g x) ∷ l) (map_map f g xs)

-- the answer shows the rows that pass, in some order
pub plain_answer : (tree : ℕ) (terms project : List Term) (db : Trees) (params : Row) (rows : List Row)
    → IsAnswer (plain_query tree terms project) db params rows
    → IsPermutation (map (shows project params) (filter (passes terms params) (db tree))) rows
plain_answer tree terms project db params rows answer =
    let q = plain_query tree terms project in
    let env = λ (r : Row). params ∷ r ∷ [] in
    let staged : answer.staged ≡ map env (filter (passes terms params) (db tree)) =
    answer.grouped ∙ flat_map_cond (passes terms params) env (db tree) in
    let kept : answer.kept ≡ map (λ r. output q (env r)) (filter (passes terms params) (db tree)) =
    answer.distinct ∙ ap (map (output q)) staged ∙ map_map (output q) env _ in
    let shown : map (λ (o : Output). o.1) answer.kept ≡ map (shows project params) (filter (passes terms params) (db tree)) =
    ap (map (λ (o : Output). o.1)) kept ∙ map_map (λ (o : Output). o.1) (λ r. output q (env r)) _ in
    let permuted = IsPermutation-map (λ (o : Output). o.1) answer.kept answer.ordered answer.same in
    subst (λ l. IsPermutation (map (shows project params) (filter (passes terms params) (db tree))) l) (sym answer.shown)
    (subst (λ l. IsPermutation l (map (λ (o : Output). o.1) answer.ordered)) shown permuted)

-- no table was computed first
pub overlay_none : (db : Trees) (tree : ℕ) → overlay db [] tree ≡ db tree
overlay_none db tree =
    elim (nat_le (2 ^ 31) tree) as (λ b. unwrap_or (if b then slice_get {X = List Row} [] (tree - 2 ^ 31) else None) (db tree)
    ≡ db tree) [ true ↦ refl | false ↦ refl ]

-- the same of a whole program
pub plain_program : (tree : ℕ) (terms project : List Term) (db : Trees) (params : Row) (rows : List Row)
    → IsProgramAnswer [] (plain_query tree terms project) db params rows
    → IsPermutation (map (shows project params) (filter (passes terms params) (db tree))) rows
plain_program tree terms project db params rows answer =
    subst (λ l. IsPermutation (map (shows project params) (filter (passes terms params) l)) rows) (overlay_none db tree)
    (plain_answer tree terms project (overlay db []) params rows (answer Null))
