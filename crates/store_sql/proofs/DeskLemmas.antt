-- What the questions on `desk` tell.
use Rattle.std.proofs.Common.{◌≡◌, inl, inr, ℕ, Bool, true, ◌==◌, Ok, List, [], ◌∷◌, length, filter, refl, sym, ap, subst, ◌∙◌, true≢false, IsTrue}
use Rattle.std.proofs.lemmas.Bool.Decides.{Decides-eqb}
use Rattle.std.proofs.lemmas.List.{length-map}
use Rattle.std.proofs.lemmas.List.Sorted.{length_permutation}
use Rattle.sqlite_value.specs.Order.{Row}
use Rattle.sqlite_rules.specs.Lists.{Has}
use Rattle.sqlite_resolve.specs.declared.compiled.Compiled.{Compiled}
use Rattle.sqlite_sql.specs.Term.{col}
use Rattle.sqlite_trees.specs.Tree.{rowid}
use Rattle.sqlite_trees.specs.View.{is_int}
use Rattle.sqlite.specs.Effect.{Database, Reads}
use Rattle.sqlite.specs.Listing.{understood}
use Rattle.sqlite.proofs.Callers.{command_of}
use Rattle.store_sql_rows.specs.Schema.{desk_schema, desk_tree}
use Rattle.store_sql_rows.specs.Meanings.{shows}
use Rattle.store_sql_rows.specs.Ours.{IsOne}
use Rattle.store_sql_rows.proofs.AnswerLemmas.{plain_program}
use Rattle.store_sql_rows.proofs.DeskTexts.{find_is, find_sure, find_text}
use Rattle.store_sql.specs.Asking.{IsAskable, Joins}
use Rattle.store_sql.specs.Fitting.{AreNumbered, IsAlone, IsFitting}
use Rattle.store_sql.specs.Own.{TellsOf}

pub find_askable : IsAskable find_text
find_askable = find_sure

filter_all : (rows : List Row) → filter (λ r. true) rows ≡ rows
filter_all [] = refl
filter_all (r ∷ rows) = ap (λ l. r ∷ l) (filter_all rows)

one_from_length : (rows : List Row) → length rows ≡ 1 → IsAlone rows
one_from_length [] is = absurd cc
one_from_length (r ∷ []) is = (r, refl)
one_from_length (r ∷ s ∷ rows) is = absurd cc

-- the answer has as many rows as the table
pub alone_reported : (rows : List Row) (n : ℕ) → n ≡ length rows → (db : Database) → (compiled : Compiled)
    → understood desk_schema find_text ≡ Ok compiled → Reads compiled.command db [] rows → TellsOf desk_tree IsAlone (n == 1) db
alone_reported rows n counted db compiled is h =
    let read = subst (λ k. Reads k db [] rows) (sym (ap command_of is) ∙ find_is) h in
    let shown = plain_program desk_tree [] (col 1 2 ∷ col 1 3 ∷ []) db.trees [] rows read.answer in
    let many : n ≡ length (db.trees desk_tree) =
    counted ∙ length_permutation _ rows shown ∙ length-map _ (shows (col 1 2 ∷ col 1 3 ∷ []) [])
    ∙ ap length (filter_all (db.trees desk_tree)) in (
      λ reported. one_from_length (db.trees desk_tree) (sym many ∙ (Decides-eqb n 1).0 reported),
      λ one. (Decides-eqb n 1).1 (many ∙ ap length one.1),
    )

pub desk_reported : (own : Bool) (db : Database) → IsFitting db → Joins (TellsOf desk_tree IsAlone) (TellsOf desk_tree AreNumbered) own db
    → TellsOf desk_tree IsOne own db
desk_reported own db fit h = elim h.is [
  | inl both ↦
      let one = both.0.0 refl in (
        λ reported. record { row = one.0; is = one.1; numbered = both.1.0 reported one.0 (subst (λ l. Has l one.0) (sym one.1) (inl refl)) },
        λ numbered. both.1.1 (λ row has. only numbered.row row numbered.numbered (subst (λ l. Has l row) numbered.is has)),
      )
  | inr stopped ↦ (
    λ reported. absurd (true≢false (sym reported ∙ stopped.1)),
    λ numbered. absurd (true≢false (sym (stopped.0.1 (numbered.row, numbered.is)))),
  )
]
  where
    only : (row other : Row) → IsTrue (is_int (rowid row)) → Has (row ∷ []) other → IsTrue (is_int (rowid other))
    only row other int (inl same) = subst (λ r. IsTrue (is_int (rowid r))) (sym same) int
    only row other int (inr later) = absurd later
