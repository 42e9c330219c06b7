-- What the statements that make the tables do.
use Rattle.std.proofs.Common.{◌≡◌, ◌≢◌, ◌⊎◌, inl, inr, ℕ, pos, List, [], ◌∷◌, ◌++◌, codes, Bool, true, false, cond, IsTrue, None, Ok, Err, Result, IfErr, OnOk, refl, sym, ap, subst, ◌∙◌, arith}
use Rattle.std.specs.List.{AllByRecursion}
use Rattle.std.proofs.lemmas.Bool.{cases_Bool, both_ways}
use Rattle.sqlite_value.specs.declared.value.Value.{Value}
use Rattle.sqlite_value.specs.declared.value.Value.TheVariants.{Null, Int}
use Rattle.sqlite_trees.specs.declared.store.Store.{Ghosts}
use Rattle.sqlite_trees.specs.Tree.{Trees}
use Rattle.sqlite_sql.specs.Term.{lit}
use Rattle.sqlite_sql.specs.Ops.{unary}
use Rattle.sqlite_schema.specs.declared.schema.Kind.TheVariants.{Integer}
use Rattle.sqlite_schema.specs.declared.schema.Table.{Table}
use Rattle.sqlite_schema.specs.declared.schema.Schema.{Schema}
use Rattle.sqlite_schema.specs.declared.command.Command.TheVariants.{Insert, CreateTable}
use Rattle.sqlite_schema.specs.declared.command.Source.TheVariants.{Values}
use Rattle.sqlite_rules.specs.declared.error.Rowids.TheVariants.{Chosen}
use Rattle.sqlite_rules.specs.Cast.{cast}
use Rattle.sqlite_rules.specs.Edit.{edit_of, edited}
use Rattle.sqlite_catalog.specs.Change.{created, next_tree, KeepsRows}
use Rattle.sqlite_tied.specs.Compute.{everything}
use Rattle.sqlite.specs.declared.error.Error.{Error}
use Rattle.sqlite.specs.Does.{Tally, Does, lacks_sequence}
use Rattle.sqlite.specs.Rows.{Written}
use Rattle.sqlite.specs.Effect.{Database}
use Rattle.sqlite.specs.Listing.{understood}
use Rattle.sqlite.specs.State.{State, HasCleanDisk, IsNotRun, IsRolledBack, IsUnchanged, KeepsCommit, Survives, Writes, Executes, ExecutesInside, mode_of}
use Rattle.sqlite.specs.Steps.{FailsToCommit}
use Rattle.sqlite.specs.Held.{Held, state}
use Rattle.sqlite.proofs.Callers.{IsPlain, command_of, statement_of, runs_as, one_step}
use Rattle.sqlite.proofs.InsideLemmas.{inside_keeps, keeps_then, unchanged_keeps}
use Rattle.sqlite.proofs.StateLemmas.{survives_then}
use Rattle.store_sql_rows.specs.Schema.{desk_table, panel_table, command_table, place_table, shown_table, imported_table, schema_0, schema_1, schema_2, schema_3, schema_4, schema_5, desk_schema}
use Rattle.store_sql_rows.specs.Texts.{create_desk, create_panel, create_command, create_place, create_shown, create_imported}
use Rattle.store_sql_rows.specs.Failing.{FailsFor}
use Rattle.store_sql_rows.specs.Making.{MakesTable}
use Rattle.store_sql_rows.proofs.CreateTexts.{makes_desk, makes_panel, makes_command, makes_place, makes_shown, makes_imported}
use Rattle.store_sql_rows.specs.Creating.{AreFirst, IsInside, IsStep, MakesTableIn, IsEmptyAs, IsFilled, IsAsBefore, first_desk_row}
use Rattle.sqlite_value.specs.Order.{Row}

-- a part that gave a value did not stop on the way
went : {B E R : Type 0} {b : B} {Stops : E → Type 0} → ((stop : E) × Stops stop × (Ok b ≡ Err stop)) ⊎ R → R
went (inl stopped) = absurd (let e = stopped.2 in cc)
went (inr on) = on

same_value : {B E : Type 0} {a b : B} → ◌≡◌ {A = Result B E} (Ok a) (Ok b) → a ≡ b
same_value e = cc

-- ---- a table is made

-- the schema with the table is the next one
pub record Grows (before after : Schema) (table : Table) : Type 0 where
  pub is : created before (record table { tree = 0 }) ≡ after
  pub plain : lacks_sequence after ≡ false

module _ (before after : Schema) (sql : List ℕ) (table : Table) (text : MakesTable before sql table)
    (grows : Grows before after table) where
  creates : (old new : State) (count : ℕ) → old.now.schema ≡ before → Executes sql [] old new (Ok count)
      → (new.now.schema ≡ after) × (new.now.trees (next_tree before) ≡ []) × KeepsRows before.tables old.now.trees new.now.trees
  creates old new count has h =
      let w =
      subst (λ t. Writes old new None CreateTable t [] count) text.statement
      (runs_as sql [] old new before has CreateTable text.command text.plain count h) in
      let all = went w.changed in
      let first = went all.1 in
      let made = first.1 in
      let both : Ok made.table ≡ Ok (record table { tree = 0 }) = sym made.defined ∙ text.defined in
      let same : made.table ≡ record table { tree = 0 } = cc in
      let schema : first.0.schema ≡ after = made.is ∙ ap (λ s. created s made.table) has ∙ ap (created before) same ∙ grows.is in
      let plain : lacks_sequence first.0.schema ≡ false = ap lacks_sequence schema ∙ grows.plain in
      let now : new.now ≡ first.0 = ap (λ (p : Tally × Database). p.1) (same_value all.2) ∙ same_value (rw plain at first.2) in (
        ap (λ (d : Database). d.schema) now ∙ schema,
        ap (λ (d : Database). d.trees (next_tree before)) now ∙ subst (λ s. first.0.trees (next_tree s) ≡ []) has made.empty,
        subst (λ (d : Database). KeepsRows before.tables old.now.trees d.trees) (sym now)
            (subst (λ (s : Schema). KeepsRows s.tables old.now.trees first.0.trees) has made.others),
      )

  pub makes : (old new : State) (r : Result ℕ Error) → IsInside before old → (IsTrue old.in_transaction → ExecutesInside 0 sql [] old new r)
      → OnOk r (MakesTableIn before after old new)
  makes old new (Err e) at h = tt
  makes old new (Ok count) at h =
      let ran = h at.mode in
      let made = creates old new count at.schema_is ran.0 in
      record { shown = ran.1; schema_is = made.0; empty = made.1; others = made.2 }

grows_desk : Grows schema_0 schema_1 desk_table
grows_desk = record { is = refl; plain = refl }

grows_panel : Grows schema_1 schema_2 panel_table
grows_panel = record { is = refl; plain = refl }

grows_command : Grows schema_2 schema_3 command_table
grows_command = record { is = refl; plain = refl }

grows_place : Grows schema_3 schema_4 place_table
grows_place = record { is = refl; plain = refl }

grows_shown : Grows schema_4 schema_5 shown_table
grows_shown = record { is = refl; plain = refl }

grows_imported : Grows schema_5 desk_schema imported_table
grows_imported = record { is = refl; plain = refl }

module _ (old new : State) (r : Result ℕ Error) where
  pub desk_is_made : IsInside schema_0 old → (IsTrue old.in_transaction → ExecutesInside 0 create_desk [] old new r)
      → OnOk r (MakesTableIn schema_0 schema_1 old new)
  desk_is_made = makes schema_0 schema_1 create_desk desk_table makes_desk grows_desk old new r

  pub panel_is_made : IsInside schema_1 old → (IsTrue old.in_transaction → ExecutesInside 0 create_panel [] old new r)
      → OnOk r (MakesTableIn schema_1 schema_2 old new)
  panel_is_made = makes schema_1 schema_2 create_panel panel_table makes_panel grows_panel old new r

  pub command_is_made : IsInside schema_2 old → (IsTrue old.in_transaction → ExecutesInside 0 create_command [] old new r)
      → OnOk r (MakesTableIn schema_2 schema_3 old new)
  command_is_made = makes schema_2 schema_3 create_command command_table makes_command grows_command old new r

  pub place_is_made : IsInside schema_3 old → (IsTrue old.in_transaction → ExecutesInside 0 create_place [] old new r)
      → OnOk r (MakesTableIn schema_3 schema_4 old new)
  place_is_made = makes schema_3 schema_4 create_place place_table makes_place grows_place old new r

  pub shown_is_made : IsInside schema_4 old → (IsTrue old.in_transaction → ExecutesInside 0 create_shown [] old new r)
      → OnOk r (MakesTableIn schema_4 schema_5 old new)
  shown_is_made = makes schema_4 schema_5 create_shown shown_table makes_shown grows_shown old new r

  pub imported_is_made : IsInside schema_5 old → (IsTrue old.in_transaction → ExecutesInside 0 create_imported [] old new r)
      → OnOk r (MakesTableIn schema_5 desk_schema old new)
  imported_is_made = makes schema_5 desk_schema create_imported imported_table makes_imported grows_imported old new r

-- ---- a statement is a step

pub execution_stays : (sql : List ℕ) (old new : State) (r : Result ℕ Error)
    → (IsTrue old.in_transaction → ExecutesInside 0 sql [] old new r) → IsTrue old.in_transaction → OnOk r (IsTrue new.in_transaction)
execution_stays sql old new (Err e) h inside = tt
execution_stays sql old new (Ok count) h inside = (h inside).1.mode

module _ {S : Type 0} (g : Ghosts S) (old new : Held S) where
  pub execution_keeps : (sql : List ℕ) (e : Error) (r : Result ℕ Error) → ((state g old).in_transaction ≡ false → (r ≡ Err e) × (new ≡ old))
      → (IsTrue (state g old).in_transaction → ExecutesInside 0 sql [] (state g old) (state g new) r)
      → KeepsCommit (state g old) (state g new)
  execution_keeps sql e r ended h = elim (cases_Bool old.in_transaction) [
    | inl inside ↦ inside_keeps (state g old) (state g new) 0 false sql [] r (h inside)
    | inr outside ↦ subst (λ k. KeepsCommit (state g old) (state g k)) (sym (ended outside).1)
        (record { was_open = λ is_open. is_open; committed = λ _. refl })
  ]

  pub executed : (sql : List ℕ) (e : Error) (r : Result ℕ Error) (Needs : State → Type 0) (Does : State → State → Type 0)
      → (Needs (state g old) → (IsTrue (state g old).in_transaction → ExecutesInside 0 sql [] (state g old) (state g new) r)
      → OnOk r (Does (state g old) (state g new)))
      → (Needs (state g old) → (IsTrue (state g old).in_transaction → ExecutesInside 0 sql [] (state g old) (state g new) r)
      → IfErr r (FailsFor (state g old) (state g new)))
      → ((state g old).in_transaction ≡ false → (r ≡ Err e) × (new ≡ old))
      → (HasCleanDisk (state g new) → IsTrue (state g old).in_transaction → ExecutesInside 0 sql [] (state g old) (state g new) r)
      → Survives (state g old) (state g new) (λ _. ⊥) → IsStep {A = ℕ} Needs Does (state g old) (state g new) r
  executed sql e r Needs Does makes fails ended runs survives = record {
    ok = λ clean at. makes at (runs clean);
    inside = λ clean. execution_stays sql (state g old) (state g new) r (runs clean);
    kept = λ clean. execution_keeps sql e r ended (runs clean);
    survives = survives;
    cause = λ clean at. fails at (runs clean);
  }

pub survives_on : (a b c : State) → Survives a b (λ _. ⊥) → Survives b c (λ _. ⊥) → Survives a c (λ _. ⊥)
survives_on a b c one two = survives_then a b c (λ _. ⊥) (λ _. ⊥) (λ _. ⊥) (λ _ db none. none) (λ _ db none. none) one two

pub keeps_on : (a b c : State) → KeepsCommit a b → KeepsCommit b c → KeepsCommit a c
keeps_on = keeps_then

pub clean_before : (a b : State) (P : Trees → Type 0) → Survives a b P → HasCleanDisk b → HasCleanDisk a
clean_before a b P one clean = omega (arith, one.clean)

-- ---- the tables in turn

empty_kept : (tables : List Table) (old new : Trees) → AllByRecursion (λ t. old t.tree ≡ []) tables → KeepsRows tables old new
    → AllByRecursion (λ t. new t.tree ≡ []) tables
empty_kept [] old new none kept = tt
empty_kept (t ∷ ts) old new none kept = (kept.0 ∙ none.0, empty_kept ts old new none.1 kept.1)

empty_more : (tables : List Table) (table : Table) (trees : Trees) → AllByRecursion (λ t. trees t.tree ≡ []) tables → trees table.tree ≡ []
    → AllByRecursion (λ t. trees t.tree ≡ []) (tables ++ table ∷ [])
empty_more [] table trees none last = (last, tt)
empty_more (t ∷ ts) table trees none last = (none.0, empty_more ts table trees none.1 last)

next_is_empty : (before after : Schema) (table : Table) → after.tables ≡ before.tables ++ table ∷ [] → table.tree ≡ next_tree before
    → (old new : State) → IsEmptyAs before old → MakesTableIn before after old new → IsEmptyAs after new
next_is_empty before after table is at old new none made = record {
  inside = record { mode = made.shown.mode; schema_is = made.schema_is };
  empty = subst (AllByRecursion (λ t. new.now.trees t.tree ≡ [])) (sym is)
      (empty_more before.tables table new.now.trees (empty_kept before.tables old.now.trees new.now.trees none.empty made.others)
      (ap new.now.trees at ∙ made.empty));
}

module _ (old new : State) where
  pub empty_desk : IsInside schema_0 old → MakesTableIn schema_0 schema_1 old new → IsEmptyAs schema_1 new
  empty_desk at = next_is_empty schema_0 schema_1 desk_table refl refl old new (record { inside = at; empty = tt })

  pub empty_panel : IsEmptyAs schema_1 old → MakesTableIn schema_1 schema_2 old new → IsEmptyAs schema_2 new
  empty_panel = next_is_empty schema_1 schema_2 panel_table refl refl old new

  pub empty_command : IsEmptyAs schema_2 old → MakesTableIn schema_2 schema_3 old new → IsEmptyAs schema_3 new
  empty_command = next_is_empty schema_2 schema_3 command_table refl refl old new

  pub empty_place : IsEmptyAs schema_3 old → MakesTableIn schema_3 schema_4 old new → IsEmptyAs schema_4 new
  empty_place = next_is_empty schema_3 schema_4 place_table refl refl old new

  pub empty_shown : IsEmptyAs schema_4 old → MakesTableIn schema_4 schema_5 old new → IsEmptyAs schema_5 new
  empty_shown = next_is_empty schema_4 schema_5 shown_table refl refl old new

  pub empty_imported : IsEmptyAs schema_5 old → MakesTableIn schema_5 desk_schema old new → IsEmptyAs desk_schema new
  empty_imported = next_is_empty schema_5 desk_schema imported_table refl refl old new

-- ---- the first row

abbrev pub first_row_text : List ℕ
first_row_text = codes "INSERT INTO desk (id, version, last) VALUES (1, 2, NULL)"

pub insert_is : command_of (understood desk_schema first_row_text)
    ≡ Insert 0 (Values (lit (Int (pos 1)) ∷ lit Null ∷ lit (Int (pos 2)) ∷ lit Null ∷ []) 4)
unfolding understood everything
insert_is = refl

pub insert_plain : IsPlain (understood desk_schema first_row_text)
unfolding understood everything
insert_plain = (refl, refl)

either : (b : Bool) (x : Value) → cond b x x ≡ x
either true x = refl
either false x = refl

pub cast_null : cast Integer Null ≡ Null
unfolding unary
cast_null = either _ Null

pub cast_one : cast Integer (Int (pos 1)) ≡ Int (pos 1)
unfolding unary
cast_one = either _ (Int (pos 1))

pub cast_two : cast Integer (Int (pos 2)) ≡ Int (pos 2)
unfolding unary
cast_two = either _ (Int (pos 2))

-- a row is put into `desk`, and the other tables are as they were
record Adds (old new : State) : Type 0 where
  schema_is : new.now.schema ≡ desk_schema
  rows : new.now.trees 0 ≡ first_desk_row ∷ []
  others : AllByRecursion (λ t. t.tree ≢ 0 → new.now.trees t.tree ≡ old.now.trees t.tree) desk_schema.tables

adds : (old new : State) (count : ℕ) → old.now.schema ≡ desk_schema → old.now.trees 0 ≡ [] → Executes first_row_text [] old new (Ok count)
    → Adds old new
adds old new count has none h =
    let db = old.now.trees in
    let command = Insert 0 (Values (lit (Int (pos 1)) ∷ lit Null ∷ lit (Int (pos 2)) ∷ lit Null ∷ []) 4) in
    let w = runs_as first_row_text [] old new desk_schema has command insert_is insert_plain count h in
    let text = statement_of first_row_text (understood desk_schema first_row_text) in
    let done =
    went (subst (λ s. Does old.step_limit (mode_of old) [] (record old.now { schema = s }) text None command
    (Ok (w.tally, new.now))) has w.changed) in
    let now = ap (λ (p : Tally × Database). p.1) (same_value (went (went done.2).2).2) in
    let given = went done.1 in
    let written = went (went given.2).2 in
    let counted = went written.2 in
    let trees : done.0.trees ≡ written.0 = ap (λ (it : Written). it.trees) (same_value counted.2) ∙ same_value counted.1 in
    let step = one_step desk_schema _ db written.0 (edit_of db desk_table [] Chosen 0 given.0) refl written.1 in
    let edit : edited db (edit_of db desk_table [] Chosen 0 given.0) ≡ first_desk_row ∷ [] =
    ap (λ all. edited db (edit_of db desk_table [] Chosen 0 all)) given.1.1 ∙ rw (none, cast_null, cast_one, cast_two) in
    let all : new.now.trees ≡ written.0 = ap (λ (d : Database). d.trees) now ∙ trees in
    record {
      schema_is = ap (λ (d : Database). d.schema) now;
      rows = ap (λ (t : Trees). t 0) all ∙ step.rows ∙ edit;
      others =
          subst (λ (t : Trees). AllByRecursion (λ table. table.tree ≢ 0 → t table.tree ≡ db table.tree) desk_schema.tables)
          (sym all) step.tables;
    }

pub first_row_is_made : (old new : State) (r : Result ℕ Error) → IsEmptyAs desk_schema old
    → (IsTrue old.in_transaction → ExecutesInside 0 first_row_text [] old new r) → OnOk r (IsFilled new)
first_row_is_made old new (Err e) at h = tt
first_row_is_made old new (Ok count) at h =
    let ran = h at.inside.mode in
    let none = at.empty in
    let added = adds old new count at.inside.schema_is none.0 ran.0 in
    let others = added.others in
    record {
      inside = record { mode = ran.1.mode; schema_is = added.schema_is };
      first = record {
        desk = added.rows;
        panel = others.1.0 (omega arith) ∙ none.1.0;
        command = others.1.1.0 (omega arith) ∙ none.1.1.0;
        place = others.1.1.1.0 (omega arith) ∙ none.1.1.1.0;
        shown = others.1.1.1.1.0 (omega arith) ∙ none.1.1.1.1.0;
        imported = others.1.1.1.1.1.0 (omega arith) ∙ none.1.1.1.1.1.0;
      };
    }

-- ---- the transaction ends

module _ {S : Type 0} (g : Ghosts S) (old mid new : Held S) where
  pub gone_back : (IsTrue (state g old).is_open → (state g old).now ≡ (state g old).committed)
      → KeepsCommit (state g (record old { in_transaction = true })) (state g mid) → IsRolledBack (state g mid) (state g new)
      → IsTrue (state g new).is_open → IsAsBefore (state g old) (state g new)
  gone_back settled kept undone is_open =
      let same : (state g mid).committed ≡ (state g old).committed = kept.committed (undone.was_open is_open) in
      let was = settled (kept.was_open (undone.was_open is_open)) in
      record { now = (undone.undone is_open).0 ∙ same ∙ sym was; committed = (undone.undone is_open).1 ∙ same }

  pub not_committed : (e : Error) → (IsTrue (state g old).is_open → (state g old).now ≡ (state g old).committed)
      → KeepsCommit (state g (record old { in_transaction = true })) (state g mid) → IsTrue (state g mid).in_transaction
      → FailsToCommit (state g mid) (state g new) e → IsTrue (state g new).is_open → IsAsBefore (state g old) (state g new)
  not_committed e settled kept inside (inl failed) is_open = gone_back settled kept failed.3 is_open
  not_committed e settled kept inside (inr late) is_open = absurd (both_ways _ late.1 inside)

-- ---- a text is asked and not run

pub asked_keeps : (old new : State) → IsUnchanged old new → KeepsCommit old new
asked_keeps old new same = unchanged_keeps old new (inl same)

pub asked_fails : (sql : List ℕ) (old new : State) (e : Error) → ((params : Row) → IsNotRun old new sql params e) → KeepsCommit old new
unfolding IsNotRun
asked_fails sql old new e none = unchanged_keeps old new (elim (none []) [ inl refused ↦ inl refused.1 | inr failed ↦ inr failed.3 ])

pub asked_stays : (old new : State) → IsUnchanged old new → IsTrue old.in_transaction → IsTrue new.in_transaction
asked_stays old new same inside = same.0.mode ∙ inside

pub asked_filled : (old new : State) → IsUnchanged old new → IsFilled old → IsFilled new
asked_filled old new same filled = record {
  inside = record { mode = same.0.mode ∙ filled.inside.mode; schema_is = ap (λ (d : Database). d.schema) same.0.now_is ∙ filled.inside.schema_is };
  first = subst (λ (d : Database). AreFirst d.trees) (sym same.0.now_is) filled.first;
}
