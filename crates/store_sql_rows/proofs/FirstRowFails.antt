-- Why the statement that writes the first row fails.
use Rattle.std.proofs.Common.{◌≡◌, inl, inr, ℕ, pos, [], ◌∷◌, None, Some, IsSome, Option, IsTrue, Err, Result, IfErr, refl, sym, ap, subst, ◌∙◌}
use Rattle.std.specs.List.{AllByRecursion}
use Rattle.std.proofs.lemmas.Bool.{both_ways}
use Rattle.sqlite_value.specs.declared.value.Value.TheVariants.{Null, Int}
use Rattle.sqlite_trees.specs.Tree.{Trees}
use Rattle.sqlite_sql.specs.Term.{lit}
use Rattle.sqlite_schema.specs.declared.schema.Constraint.TheVariants.{Unique}
use Rattle.sqlite_schema.specs.declared.schema.Keys.TheVariants.{Enforced}
use Rattle.sqlite_schema.specs.declared.command.Command.TheVariants.{Insert}
use Rattle.sqlite_schema.specs.declared.command.Source.{Source}
use Rattle.sqlite_schema.specs.declared.command.Source.TheVariants.{Values}
use Rattle.sqlite_schema.specs.Rules.{Keeps}
use Rattle.sqlite_rules.specs.declared.error.Rowids.TheVariants.{Chosen}
use Rattle.sqlite_rules.specs.Action.{Writes}
use Rattle.sqlite_rules.specs.Edit.{edit_of}
use Rattle.sqlite_tied.specs.Compute.{everything}
use Rattle.sqlite.specs.declared.error.Error.{Error}
use Rattle.sqlite.specs.Listing.{understood}
use Rattle.sqlite.specs.Rows.{Inserts}
use Rattle.sqlite.specs.State.{State, ExecutesInside}
use Rattle.store_sql_rows.specs.Creating.{IsEmptyAs}
use Rattle.store_sql_rows.specs.Failing.{FailsFor, IsWhole}
use Rattle.store_sql_rows.specs.Schema.{desk_schema, desk_table}
use Rattle.store_sql_rows.proofs.CreateLemmas.{cast_null, cast_one, cast_two, first_row_text, insert_is, insert_plain}
use Rattle.store_sql_rows.proofs.DeskFits.{desk_edit, desk_passes}
use Rattle.store_sql_rows.proofs.WriteFails.{IsStopped, rows_stop, same_stop, stopped_fails, task, unwritten}

abbrev source : Source
source = Values (lit (Int (pos 1)) ∷ lit Null ∷ lit (Int (pos 2)) ∷ lit Null ∷ []) 4

insert_whole : IsWhole first_row_text 0 (understood desk_schema first_row_text)
unfolding understood everything
insert_whole = (refl, refl, refl)

-- no table has a row
record IsBlank (db : Trees) : Type 0 where
  rows : AllByRecursion (λ t. db t.tree ≡ []) desk_schema.tables

distinct : (db : Trees) → IsBlank db → Keeps Unique desk_schema db
distinct db blank =
    let none = blank.rows in
    rw (none.0, none.1.0, none.1.1.0, none.1.1.1.0, none.1.1.1.1.0, none.1.1.1.1.1.0) (tt, (tt, (tt, (tt, (tt, (tt, tt))))))

module _ (s : State) (db : Trees) (blank : IsBlank db) where
  edit_as : edit_of db desk_table [] Chosen 0 ((Int (pos 1) ∷ Null ∷ Int (pos 2) ∷ Null ∷ []) ∷ [])
      ≡ desk_edit [] Null
  edit_as = rw (blank.rows.0, cast_null, cast_one, cast_two) refl

  -- a limit of steps stopped it
  writes_stop : (stop : Option Error) → Inserts (task s desk_table [] db) source db (Err stop) → IsStopped s.step_limit stop
  writes_stop stop (inl (None, none, is)) = absurd none
  writes_stop stop (inl (Some e, inl untyped, is)) = absurd (both_ways _ untyped.1 refl)
  writes_stop stop (inl (Some e, inr limited, is)) = (limited.1, subst (λ o. IsSome o) (sym (same_stop is)) refl)
  writes_stop stop (inr (rows, given, inl (why, counter, is))) = absurd (let e = counter in cc)
  writes_stop stop (inr (rows, given, inr (counter, counted, inl (why, unwrote, is)))) =
      let edit = ap (edit_of db desk_table [] Chosen 0) given.1 ∙ edit_as in
      let wrote = subst (λ e. Writes desk_schema Enforced db e (Err unwrote.0)) edit unwrote.1 in
      absurd (unwritten db _ (desk_passes db [] Null refl blank.rows.0 (distinct db blank)) unwrote.0 wrote)
  writes_stop stop (inr (rows, given, inr (counter, counted, inr (mid, wrote, inl (why, counts, is))))) = absurd (let e = counts in cc)
  writes_stop stop (inr (rows, given, inr (counter, counted, inr (mid, wrote, inr (next, counts, gives))))) = absurd (let e = gives in cc)

pub first_row_fails : (old new : State) (r : Result ℕ Error) → IsEmptyAs desk_schema old
    → (IsTrue old.in_transaction → ExecutesInside 0 first_row_text [] old new r) → IfErr r (FailsFor old new)
first_row_fails old new r at h =
    let blank : IsBlank old.now.trees = record { rows = at.empty } in
    stopped_fails first_row_text [] (Insert 0 source)
    (record { is = insert_is; plain = insert_plain; whole = insert_whole; free = refl; no_query = refl; no_pragma = refl }) old new
    at.inside.schema_is
    (λ stop. rows_stop old desk_table [] old.now.trees (Insert 0 source) stop (writes_stop old old.now.trees blank)) r (h at.inside.mode)
