-- What an empty answer to a question tells.
use Rattle.std.proofs.Common.{◌≡◌, ◌↔◌, ℕ, Bool, false, List, [], ◌∷◌, map, sym, ap, subst, ◌∙◌, IsTrue}
use Rattle.std.specs.List.{list_all}
use Rattle.sqlite_value.specs.declared.value.Value.TheVariants.{Null}
use Rattle.sqlite_value.specs.Order.{Row}
use Rattle.sqlite_rules.specs.Lists.{Has}
use Rattle.sqlite_schema.specs.declared.command.Command.{Command}
use Rattle.sqlite_sql.specs.Query.{IsAnswer, Output, output}
use Rattle.sqlite_sql.specs.Term.{Term, holds}
use Rattle.sqlite_trees.specs.Tree.{Trees}
use Rattle.sqlite.specs.Effect.{Database, Reads}
use Rattle.sqlite.specs.Listing.{understood}
use Rattle.sqlite.proofs.Callers.{command_of}
use Rattle.sqlite_sql.specs.Program.{overlay}
use Rattle.store_sql_rows.specs.Schema.{desk_schema}
use Rattle.store_sql_rows.specs.Meanings.{passes, plain_query}
use Rattle.store_sql_rows.proofs.AnswerLemmas.{overlay_none}
use Rattle.store_sql.specs.Asking.{FindsNone}
use Rattle.store_sql.proofs.EmptyLemmas.{all_empty, cond_empty, each_empty, empty_cond, empty_permuted, map_empty, permuted_empty}
use Rattle.store_sql.proofs.Questions.{has_no_number, one, pair_query, pairing, share, unnumbered}

-- a pair of rows passes the terms
abbrev pub pair_passes : List Term → Row → Row → Bool
pair_passes terms a b = list_all (holds ([] ∷ a ∷ b ∷ [])) terms

plain_empty : (tree : ℕ) (terms : List Term) (db : Trees) (rows : List Row) → IsAnswer (plain_query tree terms one) db [] rows
    → (rows ≡ []) ↔ ((row : Row) → Has (db tree) row → passes terms [] row ≡ false)
plain_empty tree terms db rows answer = (there, back)
  where
    there : rows ≡ [] → (row : Row) → Has (db tree) row → passes terms [] row ≡ false
    there none row h =
        let ordered = map_empty (λ (o : Output). o.1) answer.ordered (sym answer.shown ∙ none) in
        let kept = permuted_empty answer.kept answer.ordered answer.same ordered in
        let staged = map_empty (output (plain_query tree terms one)) answer.staged (sym answer.distinct ∙ kept) in
        cond_empty (passes terms [] row) _ (each_empty _ (db tree) (sym answer.grouped ∙ staged) row h)

    back : ((row : Row) → Has (db tree) row → passes terms [] row ≡ false) → rows ≡ []
    back none =
        let staged = answer.grouped ∙ all_empty _ (db tree) (λ row h. empty_cond (passes terms [] row) _ (none row h)) in
        let kept = answer.distinct ∙ ap (map (output (plain_query tree terms one))) staged in
        let ordered = empty_permuted answer.kept answer.ordered answer.same kept in
        answer.shown ∙ ap (map (λ (o : Output). o.1)) ordered

pair_empty : (tree : ℕ) (terms : List Term) (db : Trees) (rows : List Row) → IsAnswer (pair_query tree terms) db [] rows
    → (rows ≡ []) ↔ ((a b : Row) → Has (db tree) a → Has (db tree) b → pair_passes terms a b ≡ false)
pair_empty tree terms db rows answer = (there, back)
  where
    there : rows ≡ [] → (a b : Row) → Has (db tree) a → Has (db tree) b → pair_passes terms a b ≡ false
    there none a b ha hb =
        let ordered = map_empty (λ (o : Output). o.1) answer.ordered (sym answer.shown ∙ none) in
        let kept = permuted_empty answer.kept answer.ordered answer.same ordered in
        let staged = map_empty (output (pair_query tree terms)) answer.staged (sym answer.distinct ∙ kept) in
        cond_empty (pair_passes terms a b) _ (each_empty _ (db tree) (each_empty _ (db tree) (sym answer.grouped ∙ staged) a ha) b hb)

    back : ((a b : Row) → Has (db tree) a → Has (db tree) b → pair_passes terms a b ≡ false) → rows ≡ []
    back none =
        let staged =
        answer.grouped ∙ all_empty _ (db tree) (λ a ha. all_empty _ (db tree)
        (λ b hb. empty_cond (pair_passes terms a b) _ (none a b ha hb))) in
        let kept = answer.distinct ∙ ap (map (output (pair_query tree terms))) staged in
        let ordered = empty_permuted answer.kept answer.ordered answer.same kept in
        answer.shown ∙ ap (map (λ (o : Output). o.1)) ordered

-- what the command of the text reads
read_as : (sql : List ℕ) (command : Command) → command_of (understood desk_schema sql) ≡ command → (none : Bool) (db : Database)
    → (h : FindsNone sql none db) → Reads command db [] h.rows
read_as sql command is none db h = subst (λ k. Reads k db [] h.rows) (sym (ap command_of h.is) ∙ is) h.read

pub plain_none : (sql : List ℕ) (tree : ℕ) → command_of (understood desk_schema sql) ≡ unnumbered tree → (none : Bool) (db : Database)
    → FindsNone sql none db
    → IsTrue none ↔ ((row : Row) → Has (db.trees tree) row → passes (has_no_number ∷ []) [] row ≡ false)
plain_none sql tree is none db h =
    let read = read_as sql (unnumbered tree) is none db h in
    let empty = plain_empty tree (has_no_number ∷ []) (overlay db.trees []) h.rows (read.answer Null) in
    let same = overlay_none db.trees tree in (
      λ reported. subst (λ l. (row : Row) → Has l row → passes (has_no_number ∷ []) [] row ≡ false) same (empty.0 (h.reported.0 reported)),
      λ each. h.reported.1 (empty.1 (subst (λ l. (row : Row) → Has l row → passes (has_no_number ∷ []) [] row ≡ false) (sym same) each)),
    )

pub pair_none : (sql : List ℕ) (tree : ℕ) (different : Term) → command_of (understood desk_schema sql) ≡ pairing tree different
    → (none : Bool) (db : Database) → FindsNone sql none db
    → IsTrue none ↔ ((a b : Row) → Has (db.trees tree) a → Has (db.trees tree) b → pair_passes (share ∷ different ∷ []) a b ≡ false)
pair_none sql tree different is none db h =
    let read = read_as sql (pairing tree different) is none db h in
    let empty = pair_empty tree (share ∷ different ∷ []) (overlay db.trees []) h.rows (read.answer Null) in
    let same = overlay_none db.trees tree in
    let Each = λ (l : List Row). (a b : Row) → Has l a → Has l b → pair_passes (share ∷ different ∷ []) a b ≡ false in
    (λ reported. subst Each same (empty.0 (h.reported.0 reported)), λ each. h.reported.1 (empty.1 (subst Each (sym same) each)))
