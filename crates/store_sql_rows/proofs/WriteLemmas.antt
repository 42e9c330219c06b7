-- What a statement that removes rows of a table, adds one, or changes them, makes of the trees.
use Rattle.std.proofs.Common.{◌≡◌, ◌⊎◌, inl, inr, ℕ, List, length, ◌/◌, [], ◌∷◌, ◌++◌, map, filter, slice_get, Option, Some, None, Ok, Err, Result, refl, sym, ap, subst, ◌∙◌, unwrap_or}
use Rattle.std.proofs.lemmas.List.{length-map}
use Rattle.std.specs.List.Sorted.{IsPermutation}
use Rattle.sqlite_value.specs.Order.{Row}
use Rattle.sqlite_trees.specs.Tree.{Trees, rowid}
use Rattle.sqlite_schema.specs.declared.schema.Column.{Column}
use Rattle.sqlite_schema.specs.declared.schema.Table.{Table}
use Rattle.sqlite_schema.specs.declared.schema.Keys.TheVariants.{Enforced}
use Rattle.sqlite_schema.specs.declared.command.Command.{Command}
use Rattle.sqlite_schema.specs.declared.command.Command.TheVariants.{Insert, Update}
use Rattle.sqlite_schema.specs.declared.command.Source.TheVariants.{Values}
use Rattle.sqlite_sql.specs.Term.{Term, col}
use Rattle.sqlite_rules.specs.declared.error.Rowids.TheVariants.{Chosen, Given}
use Rattle.sqlite_rules.specs.Calls.{ids_of}
use Rattle.sqlite_rules.specs.Edit.{Applies, Edit, edit_of}
use Rattle.sqlite_rules.proofs.PlaceLemmas.{given as numbered_given}
use Rattle.sqlite.specs.Does.{AtPlace, Does, OnRows, Tally, WritesRows}
use Rattle.sqlite.specs.Effect.{Database, IsDatabase, value_rows}
use Rattle.sqlite.specs.Given.{IsPlain}
use Rattle.sqlite.specs.Listing.{understood}
use Rattle.sqlite.specs.Rows.{Outcome, Part, Task, Written}
use Rattle.sqlite.specs.State.{State, Writes, mode_of, Executes}
use Rattle.sqlite.proofs.Callers.{command_of, one_step, runs_as, statement_of}
use Rattle.store_sql_rows.specs.Schema.{desk_schema, keyed_table}
use Rattle.store_sql_rows.specs.Meanings.{deletion, passes, plain_query, shows}
use Rattle.store_sql_rows.proofs.AnswerLemmas.{plain_program}

-- a part that gave a value did not stop on the way
went : {B E R : Type 0} {b : B} {Stops : E → Type 0} → ((stop : E) × Stops stop × (Ok b ≡ Err stop)) ⊎ R → R
went (inl stopped) = absurd (let e = stopped.2 in cc)
went (inr on) = on

same_value : {B E : Type 0} {a b : B} → ◌≡◌ {A = Result B E} (Ok a) (Ok b) → a ≡ b
same_value e = cc

at_place : {X A : Type 0} (P : X → Part A) (place : Option X) (x : X) (out : Outcome A) → place ≡ Some x → AtPlace P place out → P x out
at_place P place x out is h = rw is at h

-- a statement in this text was run
pub record Ran (old new : State) (edit : Edit) : Type 0 where
  pub schema : new.now.schema ≡ desk_schema
  pub sound : IsDatabase new.now
  pub applies : Applies desk_schema Enforced old.now.trees edit new.now.trees

-- a command that works on the rows of a table did so, and nothing else
record Works (table : Table) (command : Command) (old new : State) (params : Row) (count : ℕ) : Type 0 where
  written : Written
  wrote : WritesRows (record { limit = old.step_limit; keys = Enforced; schema = desk_schema; table = table; params = params })
      old.now.trees command (Ok written)
  now : new.now ≡ record { schema = desk_schema; trees = written.trees }
  sound : IsDatabase new.now
  count_is : count ≡ length written.rows

module _ (table : Table) (command : Command) (old new : State) (params : Row) (count : ℕ) where
  works : (at : ℕ) → slice_get desk_schema.tables at ≡ Some table → (text : List ℕ)
      → ((db : Database) (out : Outcome (Tally × Database)) → Does old.step_limit (mode_of old) params db text None command out
      → AtPlace (λ (t : Table). OnRows (record { limit = old.step_limit; keys = Enforced; schema = db.schema; table = t; params = params })
      (mode_of old) None command db.trees) (slice_get db.schema.tables at) out)
      → old.now.schema ≡ desk_schema → Writes old new None command text params count → Works table command old new params count
  works at found text opens has w =
      let on =
      subst (λ s. Does old.step_limit (mode_of old) params (record old.now { schema = s }) text None command
      (Ok (w.tally, new.now))) has w.changed in
      let task : Task = record { limit = old.step_limit; keys = Enforced; schema = desk_schema; table = table; params = params } in
      let done =
      went (at_place (λ (t : Table). OnRows (record task { table = t }) (mode_of old) None command old.now.trees)
      (slice_get desk_schema.tables at) table (Ok (w.tally, new.now)) found
      (opens (record old.now { schema = desk_schema }) (Ok (w.tally, new.now)) on)) in
      let concluded = went (went done.2).2 in
      record {
        written = done.0;
        wrote = done.1;
        now = ap (λ (p : Tally × Database). p.1) (same_value concluded.2);
        sound = w.sound;
        count_is = w.counted ∙ ap (λ (p : Tally × Database). unwrap_or p.0.rows 0) (same_value concluded.2);
      }

  -- it was this edit, if the trees that it leads to are those that were written
  ran : (work : Works table command old new params count) (edit : Edit) (trees : Trees) → work.written.trees ≡ trees
      → Applies desk_schema Enforced old.now.trees edit trees → Ran old new edit
  ran work edit trees is applied = record {
    schema = ap (λ (d : Database). d.schema) work.now;
    sound = work.sound;
    applies = subst (Applies desk_schema Enforced old.now.trees edit) (sym is ∙ sym (ap (λ (d : Database). d.trees) work.now)) applied;
  }

module _ (sql : List ℕ) (at : ℕ) (table : Table) (found : slice_get desk_schema.tables at ≡ Some table)
    (plain : IsPlain (understood desk_schema sql)) where
  pub removes : (tree : ℕ) (terms : List Term) → command_of (understood desk_schema sql) ≡ deletion at tree terms
      → (old new : State) (params : Row) (count : ℕ) → old.now.schema ≡ desk_schema → Executes sql params old new (Ok count)
      → (rows : List Row) × IsPermutation (map (λ r. rowid r ∷ []) (filter (passes terms params) (old.now.trees tree))) rows
      × Ran old new (edit_of old.now.trees table (ids_of rows) Given 0 [])
  removes tree terms is old new params count has h =
      let db = old.now.trees in
      let work = works table (deletion at tree terms) old new params count at found (statement_of sql (understood desk_schema sql)) (λ d out does. does) has
      (runs_as sql params old new desk_schema has (deletion at tree terms) is plain count h) in
      let deleted = went work.wrote in
      let edited = went deleted.2 in
      let edit = edit_of db table (ids_of deleted.0) Given 0 [] in (
        deleted.0,
        plain_program tree terms (col 1 0 ∷ []) db params deleted.0 deleted.1.answer,
        ran table (deletion at tree terms) old new params count work edit edited.0
            (ap (λ (it : Written). it.trees) (same_value edited.2))
            (one_step desk_schema Enforced db edited.0 edit refl edited.1),
      )

  pub updates : (tree : ℕ) (terms project : List Term)
      → command_of (understood desk_schema sql) ≡ Update at (record { lets = []; body = plain_query tree terms project })
      → (old new : State) (params : Row) (count : ℕ) → old.now.schema ≡ desk_schema → Executes sql params old new (Ok count)
      → (rows : List Row) × IsPermutation (map (shows project params) (filter (passes terms params) (old.now.trees tree))) rows
      × Ran old new (edit_of old.now.trees table (ids_of rows) Given 1 rows) × (count ≡ length rows)
  updates tree terms project is old new params count has h =
      let db = old.now.trees in
      let command = Update at (record { lets = []; body = plain_query tree terms project }) in
      let work = works table command old new params count at found (statement_of sql (understood desk_schema sql)) (λ d out does. does) has
      (runs_as sql params old new desk_schema has command is plain count h) in
      let updated = went work.wrote in
      let edited = went updated.2 in
      let edit = edit_of db table (ids_of updated.0) Given 1 updated.0 in (
        updated.0,
        plain_program tree terms project db params updated.0 updated.1.answer,
        ran table command old new params count work edit edited.0
            (ap (λ (it : Written). it.trees) (same_value edited.2))
            (one_step desk_schema Enforced db edited.0 edit refl edited.1),
        work.count_is ∙ ap (λ (it : Written). length it.rows) (same_value edited.2) ∙ ap length (numbered_given _ _)
            ∙ length-map updated.0 _,
      )

module _ (sql : List ℕ) (at : ℕ) (name : List ℕ) (tree : ℕ) (columns : List Column) (key : List ℕ) (checks : List Term)
    (found : slice_get desk_schema.tables at ≡ Some (keyed_table name tree columns key checks))
    (plain : IsPlain (understood desk_schema sql)) where
  -- the row that an INSERT puts into the table, with the rowid that it chose
  pub adds : (terms : List Term) (width : ℕ) → command_of (understood desk_schema sql) ≡ Insert at (Values terms width)
      → (old new : State) (params : Row) (count : ℕ) → old.now.schema ≡ desk_schema → Executes sql params old new (Ok count)
      → Ran old new (edit_of old.now.trees (keyed_table name tree columns key checks) [] Chosen 0
      (value_rows (params ++ []) width (length terms / width) terms))
  adds terms width is old new params count has h =
      let db = old.now.trees in
      let table = keyed_table name tree columns key checks in
      let command = Insert at (Values terms width) in
      let work = works table command old new params count at found (statement_of sql (understood desk_schema sql)) (λ d out does. does) has
      (runs_as sql params old new desk_schema has command is plain count h) in
      let given = went work.wrote in
      let counted = went given.2 in
      let edited = went counted.2 in
      let uncounted = went edited.2 in
      let edit = edit_of db table [] Chosen 0 given.0 in
      subst (λ rows. Ran old new (edit_of db table [] Chosen 0 rows)) given.1.1
      (ran table command old new params count work edit edited.0
      (ap (λ (it : Written). it.trees) (same_value uncounted.2) ∙ same_value uncounted.1)
      (one_step desk_schema Enforced db edited.0 edit refl edited.1))
