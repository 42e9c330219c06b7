-- Why the statement that sets the version fails.
use Rattle.std.proofs.Common.{◌≡◌, ℕ, ℤ, pos, List, [], ◌∷◌, false, drop, None, Some, Result, IfErr, refl, sym, ap, subst, ◌∙◌, inl, inr}
use Rattle.std.proofs.lemmas.Bool.{and_parts, both_ways, cases_Bool, not-true}
use Rattle.std.proofs.lemmas.Bool.Decides.{Decides-int_eq}
use Rattle.sqlite_value.specs.declared.keys.Collation.TheVariants.{Binary}
use Rattle.sqlite_value.specs.declared.value.Value.TheVariants.{Int}
use Rattle.sqlite_value.specs.Order.{Row, column, value_cmp}
use Rattle.sqlite_value.proofs.OrderLemmas.{value_cmp-Int}
use Rattle.std.specs.Ordering.{is_eq}
use Rattle.sqlite_trees.specs.Tree.{Trees, rowid}
use Rattle.sqlite_schema.specs.declared.schema.Constraint.TheVariants.{Check, Unique}
use Rattle.sqlite_schema.specs.declared.command.Command.TheVariants.{Update}
use Rattle.sqlite_sql.specs.declared.ops.BinaryOp.TheVariants.{Compare}
use Rattle.sqlite_sql.specs.declared.ops.CompareOp.TheVariants.{Eq}
use Rattle.sqlite_sql.specs.Ops.{binary, from_truth, is_false}
use Rattle.sqlite_sql.specs.Query.{Query}
use Rattle.sqlite_rules.specs.declared.error.Rowids.TheVariants.{Given}
use Rattle.sqlite_rules.specs.Calls.{ids_of}
use Rattle.sqlite_rules.specs.Cast.{cast_row}
use Rattle.sqlite_rules.specs.Edit.{edit_of, id_in, without_all}
use Rattle.sqlite_rules.specs.Lists.{Has}
use Rattle.sqlite_rules.proofs.ListLemmas.{all_has}
use Rattle.sqlite_rules.proofs.PlaceLemmas.{given as numbered_given}
use Rattle.sqlite_rules.proofs.TableLemmas.{int_is}
use Rattle.sqlite_tied.specs.Compute.{everything}
use Rattle.sqlite.specs.declared.error.Error.{Error}
use Rattle.sqlite.specs.Effect.{Answers}
use Rattle.sqlite.specs.Listing.{understood}
use Rattle.sqlite.specs.State.{State, ExecutesInside}
use Rattle.store_sql_rows.specs.Failing.{FailsFor, IsWhole}
use Rattle.store_sql_rows.specs.Meanings.{plain_query, shows}
use Rattle.store_sql_rows.specs.Ours.{IsInside}
use Rattle.store_sql_rows.specs.Schema.{desk_schema, desk_table, desk_tree}
use Rattle.store_sql_rows.proofs.AnswerLemmas.{plain_program}
use Rattle.store_sql_rows.proofs.CellLemmas.{cast_int, cast_null}
use Rattle.store_sql_rows.proofs.DeskFits.{desk_edit, desk_passes, desk_row}
use Rattle.store_sql_rows.proofs.DeskLemmas.{one_shown, taken_out}
use Rattle.store_sql_rows.proofs.DeskTexts.{set_version_is, set_version_plain, set_version_text, version_set}
use Rattle.store_sql_rows.proofs.FailLemmas.{plain_refuses}
use Rattle.store_sql_rows.proofs.TypeLemmas.{ruled}
use Rattle.store_sql_rows.proofs.WriteFails.{Passes, edits_stop, rows_stop, stopped_fails}
use Rattle.store_sql.proofs.VersionLemmas.{last_kept, last_typed}

-- a check that a number is 1 passes no other
checked_one : (n : ℤ) → is_false (binary (Compare Eq Binary) (Int n) (Int (pos 1))) ≡ false → n ≡ pos 1
unfolding binary
checked_one n passed = elim (cases_Bool (is_eq (value_cmp (Int n) (Int (pos 1))))) [
  | inl same ↦ (Decides-int_eq n (pos 1)).0 (ap is_eq (sym (value_cmp-Int n (pos 1))) ∙ same)
  | inr other ↦ absurd (both_ways _ passed (ap (λ b. is_false (from_truth (Some b))) other))
]

module _ (s : State) (inside : IsInside s) where
  abbrev was : Row
  was = inside.ours.rows.desk.row

  abbrev db : Trees
  db = s.now.trees

  -- the one row of `desk` has the number 1
  numbered_one : rowid was ≡ Int (pos 1)
  numbered_one =
      let desk = inside.ours.rows.desk in
      let own = int_is (rowid was) desk.numbered in
      let checked = all_has _ (db desk_tree) was (ruled Check s.now inside.ours).0 (subst (λ l. Has l was) (sym desk.is) (inl refl)) in
      let passed = subst (λ v. is_false (binary (Compare Eq Binary) v (Int (pos 1))) ≡ false) own (not-true _ (and_parts _ _ checked).0) in
      own ∙ ap Int (checked_one (id_in (rowid was)) passed)

  version_passes : (rows : List Row) → Answers (record { schema = desk_schema; trees = db }) (record { lets = []; body = plain_query desk_tree [] version_set }) [] rows
      → Passes db (edit_of db desk_table (ids_of rows) Given 1 rows)
  version_passes rows answers =
      let desk = inside.ours.rows.desk in
      let shown = shows version_set [] was in
      let one = one_shown version_set [] (db desk_tree) rows was desk.is (plain_program desk_tree [] version_set db [] rows answers.answer) in
      let left : without_all (db desk_tree) (ids_of (shown ∷ [])) ≡ [] =
      ap (λ l. without_all l (ids_of (shown ∷ []))) desk.is ∙ taken_out was shown desk.numbered refl in
      let made : cast_row desk_table (drop 1 shown) ≡ desk_row (column was 3) =
      rw (numbered_one, last_kept s.now inside.ours was desk.is, cast_null, cast_int (pos 2), cast_int (pos 1)) refl in
      let passes = desk_passes db (ids_of (shown ∷ [])) (column was 3) (last_typed s.now inside.ours was desk.is) left (ruled Unique s.now inside.ours) in
      let edit : edit_of db desk_table (ids_of (shown ∷ [])) Given 1 (shown ∷ []) ≡ desk_edit (ids_of (shown ∷ [])) (column was 3) =
      let news = numbered_given (without_all (db desk_tree) (ids_of (shown ∷ []))) (cast_row desk_table (drop 1 shown) ∷ []) ∙ ap (λ r. r ∷ []) made in
      λ i. record { table = desk_table; gone = ids_of (shown ∷ []); news = news i } in
      subst (λ l. Passes db (edit_of db desk_table (ids_of l) Given 1 l)) (sym one) (subst (Passes db) (sym edit) passes)

version_whole : IsWhole set_version_text 0 (understood desk_schema set_version_text)
unfolding understood everything
version_whole = (refl, refl, refl)

pub version_fails : (old new : State) (r : Result ℕ Error) → IsInside old → ExecutesInside 0 set_version_text [] old new r
    → IfErr r (FailsFor old new)
version_fails old new r inside =
    let db = old.now.trees in
    let body : Query = plain_query desk_tree [] version_set in
    stopped_fails set_version_text [] (Update 0 (record { lets = []; body = body }))
    (record { is = set_version_is; plain = set_version_plain; whole = version_whole; free = refl; no_query = refl; no_pragma = refl }) old new
    inside.ours.schema_is
    (λ stop. rows_stop old desk_table [] db (Update 0 (record { lets = []; body = body })) stop
    (λ first. edits_stop old desk_table [] db (record { lets = []; body = body })
    (λ rows. edit_of db desk_table (ids_of rows) Given 1 rows)
    (λ rows next. record { trees = next; rows = (edit_of db desk_table (ids_of rows) Given 1 rows).news; last = None }) first
    (λ e. plain_refuses old.step_limit db body [] e refl refl desk_tree refl)
    (version_passes old inside))) r
