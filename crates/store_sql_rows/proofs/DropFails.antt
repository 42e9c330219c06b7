-- Why the statement that drops the rows of a panel below a number fails.
use Rattle.std.proofs.Common.{◌≡◌, ◌==◌, ◌∙◌, inl, inr, ℕ, ℤ, pos, nat_lt, not, List, [], ◌∷◌, true, false, length, Result, IfErr, refl, sym, None, true≢false}
use Rattle.std.proofs.lemmas.Bool.{both_ways, eq-eqb, ne_eqb, or_right}
use Rattle.sqlite_value.specs.declared.value.Value.TheVariants.{Int, Text}
use Rattle.sqlite_value.specs.Order.{Row}
use Rattle.sqlite_trees.specs.Tree.{with_tree}
use Rattle.sqlite_schema.specs.declared.schema.Constraint.TheVariants.{Check, Datatype, ForeignKey, NotNull, PrimaryKey, Unique}
use Rattle.sqlite_schema.specs.declared.schema.Keys.TheVariants.{Enforced}
use Rattle.sqlite_rules.specs.declared.error.Refusal.{Refusal}
use Rattle.sqlite_rules.specs.declared.error.Refusal.TheVariants.{BadReference, Mismatch, NoRowid, TooDeep, Violates}
use Rattle.sqlite_rules.specs.declared.error.Rowids.TheVariants.{Given}
use Rattle.sqlite_rules.specs.Calls.{ids_of}
use Rattle.sqlite_rules.specs.Edit.{Edit, IsRefused, edit_of, taken_by, without_all}
use Rattle.sqlite_rules.proofs.RuleLemmas.{Turns, unique_kept}
use Rattle.sqlite_rules.proofs.TableLemmas.{without_all_has}
use Rattle.sqlite_sql.specs.declared.ops.CompareOp.TheVariants.{Lt}
use Rattle.sqlite_sql.specs.Query.{Query}
use Rattle.sqlite_sql.specs.Term.{Term, col}
use Rattle.sqlite_tied.specs.Compute.{everything}
use Rattle.sqlite.specs.declared.error.Error.{Error}
use Rattle.sqlite.specs.Effect.{Database}
use Rattle.sqlite.specs.Listing.{understood}
use Rattle.sqlite.specs.State.{State, ExecutesInside}
use Rattle.store_sql_rows.specs.Failing.{FailsFor, IsWhole}
use Rattle.store_sql_rows.specs.Meanings.{compared_with, deletion, given, plain_query}
use Rattle.store_sql_rows.specs.Ours.{IsInside, IsOurs}
use Rattle.store_sql_rows.specs.Schema.{command_table, command_tree, desk_schema}
use Rattle.store_sql_rows.proofs.CommandTexts.{drop_runs, drop_text}
use Rattle.store_sql_rows.proofs.FailLemmas.{plain_refuses}
use Rattle.store_sql_rows.proofs.TypeLemmas.{ruled}
use Rattle.store_sql_rows.proofs.WriteFails.{Passes, edits_stop, rows_stop, stopped_fails}

apart : (a b : ℕ) → (a == b) ≡ false → a ≡ b → ⊥
apart a b other same = both_ways _ other (eq-eqb a b same)

module _ (db : Database) (ours : IsOurs db) (gone : List ℤ) where
  -- only rows of commands go
  abbrev dropping : Edit
  dropping = record { table = command_table; gone = gone; news = [] }

  abbrev left : List Row
  left = without_all (db.trees command_tree) gone

  turned : Turns desk_schema db.trees (with_tree db.trees command_tree left) command_table left (db.trees command_tree) []
  turned = record {
    apart = search (apart);
    listed = inr (inr (inl refl));
    others = λ t known other. rw (ne_eqb t.tree command_tree other) refl;
    from = λ r h. inr h;
    stays = λ r h. h;
    added = λ r h. absurd h;
    was = λ r h. without_all_has gone (db.trees command_tree) r h;
    split = λ r h. inr h;
  }

  unrefused : (why : Refusal) → IsRefused desk_schema Enforced db.trees dropping why → ⊥
  unrefused (Violates Datatype) h = true≢false h
  unrefused (Violates NotNull) h = true≢false h
  unrefused (Violates Check) h = true≢false h
  unrefused (Violates PrimaryKey) h = true≢false h
  unrefused (Violates Unique) h =
      h (unique_kept desk_schema db.trees (with_tree db.trees command_tree left) command_table left (db.trees command_tree) [] turned refl
      (ruled Unique db ours))
  unrefused (Violates ForeignKey) h = h
  unrefused Mismatch h = true≢false h
  unrefused NoRowid h = true≢false h
  unrefused BadReference h = true≢false (sym (or_right (not (nat_lt 0 (length gone))) true refl) ∙ h)
  unrefused TooDeep h = h

  drop_passes : Passes db.trees dropping
  drop_passes = record { rules = unrefused; fits = λ row has. absurd has; acts = refl }

drop_whole : IsWhole drop_text 2 (understood desk_schema drop_text)
unfolding understood everything
drop_whole = (refl, refl, refl)

abbrev terms : List Term
terms = given 1 0 ∷ compared_with Lt 2 1 ∷ []

module _ (panel : List ℕ) (number : ℕ) where
  abbrev params : Row
  params = Text panel ∷ Int (pos number) ∷ []

  abbrev body : Query
  body = plain_query command_tree terms (col 1 0 ∷ [])

  pub drop_fails : (old new : State) (r : Result ℕ Error) → IsInside old → ExecutesInside 0 drop_text params old new r
      → IfErr r (FailsFor old new)
  drop_fails old new r inside =
      let db = old.now.trees in
      stopped_fails drop_text params (deletion 2 command_tree terms)
      (record { is = drop_runs.is; plain = drop_runs.plain; whole = drop_whole; free = refl; no_query = refl; no_pragma = refl }) old new
      inside.ours.schema_is
      (λ stop. rows_stop old command_table params db (deletion 2 command_tree terms) stop
      (λ first. edits_stop old command_table params db (record { lets = []; body = body })
      (λ rows. edit_of db command_table (ids_of rows) Given 0 [])
      (λ rows next. record { trees = next; rows = taken_by db (edit_of db command_table (ids_of rows) Given 0 []); last = None }) first
      (λ e. plain_refuses old.step_limit db body params e refl refl command_tree refl)
      (λ rows answers. drop_passes old.now inside.ours (ids_of rows)))) r
