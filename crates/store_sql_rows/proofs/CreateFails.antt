-- Why a statement that makes a table fails.
use Rattle.std.proofs.Common.{◌≡◌, ◌≤◌, ◌+◌, ◌*◌, ◌^◌, inl, inr, ℕ, nat_lt, not, List, [], ◌∷◌, codes, length, Bool, true, false, None, Some, Option, IsTrue, Ok, Err, Result, IfErr, refl, sym, ap, subst, ◌∙◌, arith}
use Rattle.std.specs.List.{AllByRecursion, list_all}
use Rattle.std.specs.Str.{chars, is_utf8, IsUtf8}
use Rattle.std.proofs.lemmas.Str.{IsUtf8-from_is_utf8}
use Rattle.std.proofs.lemmas.Bool.{and_parts, both_ways, ltb-true, not-true}
use Rattle.sqlite_value.specs.declared.value.Value.TheVariants.{Text}
use Rattle.sqlite_value.specs.Order.{value_cmp}
use Rattle.sqlite_trees.specs.Sound.{begins, fits_kind, is_free_name, same_name as listed_name}
use Rattle.sqlite_schema.specs.declared.schema.Table.{Table}
use Rattle.sqlite_schema.specs.declared.schema.Schema.{Schema}
use Rattle.sqlite_schema.specs.declared.command.Command.TheVariants.{CreateTable}
use Rattle.sqlite_schema.specs.Rules.{table_reals, index_reals}
use Rattle.sqlite_resolve.specs.Compile.{table_defined_by}
use Rattle.sqlite_rules.specs.Lists.{Has}
use Rattle.sqlite_rules.proofs.ListLemmas.{all_from, all_has, test_has}
use Rattle.sqlite_catalog.specs.declared.error.Refusal.{Refusal}
use Rattle.sqlite_catalog.specs.declared.error.Refusal.TheVariants.{Invalid, NameTaken, BadName, TooBig, BadKey, BadText, Violates}
use Rattle.sqlite_catalog.specs.Calls.{RefusesTable}
use Rattle.sqlite_catalog.specs.Change.{automatics, created, is_reserved, is_used, next_tree}
use Rattle.sqlite_catalog.specs.Listing.{is_fit, is_formed}
use Rattle.sqlite_tied.specs.Compute.{everything}
use Rattle.sqlite.specs.declared.error.Error.{Error}
use Rattle.sqlite.specs.declared.run.Mode.{Mode}
use Rattle.sqlite.specs.Does.{Does, MakesTable as Making, lacks_sequence}
use Rattle.sqlite.specs.Effect.{Database}
use Rattle.sqlite.specs.Listing.{understood}
use Rattle.sqlite.specs.State.{State, ExecutesInside, mode_of}
use Rattle.sqlite.proofs.Callers.{statement_of}
use Rattle.store_sql_rows.specs.Creating.{IsInside}
use Rattle.store_sql_rows.specs.Failing.{FailsFor, IsWhole}
use Rattle.store_sql_rows.specs.Making.{MakesTable}
use Rattle.store_sql_rows.specs.Schema.{desk_table, panel_table, command_table, place_table, shown_table, imported_table, schema_0, schema_1, schema_2, schema_3, schema_4, schema_5}
use Rattle.store_sql_rows.specs.Texts.{create_desk, create_panel, create_command, create_place, create_shown, create_imported}
use Rattle.store_sql_rows.proofs.CreateTexts.{makes_desk, makes_panel, makes_command, makes_place, makes_shown, makes_imported}
use Rattle.store_sql_rows.proofs.FailLemmas.{inside_fails}

-- the table can be made over the schema: its names are free, and its row of the listing can stand
pub record Fits (before : Schema) (sql : List ℕ) (table : Table) : Type 0 where
  pub whole : IsWhole sql 0 (understood before sql)
  pub utf8 : is_utf8 sql ≡ true
  pub named : is_utf8 table.name ≡ true
  pub free : is_used before table.name ≡ false
  pub keys_free : AllByRecursion (λ i. is_used before i.name ≡ false) (automatics (record table { tree = 0 }) 0 0 table.uniques)
  pub unreserved : is_reserved table.name ≡ false
  pub few : nat_lt (next_tree before + length table.uniques) 65536 ≡ true
  pub reals : nat_lt (table_reals table) (2 ^ 64) ≡ true
  pub key_reals : AllByRecursion (λ key. nat_lt (index_reals (table_reals table) key) (2 ^ 64) ≡ true) table.uniques
  pub formed : is_formed table ≡ true
  pub fit : is_fit (Text (codes "table")) (Text table.name) (Text table.name) (Text sql) ≡ true
  pub short : nat_lt (2 * length table.name + length sql + 200) (10 ^ 9) ≡ true
  pub plain : lacks_sequence (created before (record table { tree = 0 })) ≡ false

-- the same as tests
abbrev tests : Schema → List ℕ → Table → List Bool
tests before sql table =
    is_utf8 sql ∷ is_utf8 table.name ∷ not (is_used before table.name)
    ∷ list_all (λ i. not (is_used before i.name)) (automatics (record table { tree = 0 }) 0 0 table.uniques) ∷ not (is_reserved table.name)
    ∷ nat_lt (next_tree before + length table.uniques) 65536 ∷ nat_lt (table_reals table) (2 ^ 64)
    ∷ list_all (λ key. nat_lt (index_reals (table_reals table) key) (2 ^ 64)) table.uniques ∷ is_formed table
    ∷ is_fit (Text (codes "table")) (Text table.name) (Text table.name) (Text sql)
    ∷ nat_lt (2 * length table.name + length sql + 200) (10 ^ 9) ∷ not (lacks_sequence (created before (record table { tree = 0 }))) ∷ []

each : (bs : List Bool) → list_all (λ b. b) bs ≡ true → AllByRecursion (λ b. b ≡ true) bs
each [] all = tt
each (b ∷ bs) all = let parts = and_parts b (list_all (λ c. c) bs) all in (parts.0, each bs parts.1)

fits : (before : Schema) (sql : List ℕ) (table : Table) → IsWhole sql 0 (understood before sql)
    → list_all (λ b. b) (tests before sql table) ≡ true → Fits before sql table
fits before sql table whole passed =
    let t = each (tests before sql table) passed in
    let keys = automatics (record table { tree = 0 }) 0 0 table.uniques in
    record {
      whole = whole;
      utf8 = t.0;
      named = t.1.0;
      free = not-true _ t.1.1.0;
      keys_free = all_from _ keys (λ i has. not-true _ (test_has _ keys i t.1.1.1.0 has));
      unreserved = not-true _ t.1.1.1.1.0;
      few = t.1.1.1.1.1.0;
      reals = t.1.1.1.1.1.1.0;
      key_reals = all_from _ table.uniques (λ key has. test_has _ table.uniques key t.1.1.1.1.1.1.1.0 has);
      formed = t.1.1.1.1.1.1.1.1.0;
      fit = t.1.1.1.1.1.1.1.1.1.0;
      short = t.1.1.1.1.1.1.1.1.1.1.0;
      plain = not-true _ t.1.1.1.1.1.1.1.1.1.1.1.0;
    }

below : (a b : ℕ) → nat_lt a b ≡ true → b ≤ a → ⊥
below a b less more = absurd (let low = ltb-true a b less in omega (arith, low, more))

module _ (before : Schema) (sql : List ℕ) (table : Table) (fits : Fits before sql table) where
  -- the table that the text defines
  abbrev it : Table
  it = record table { tree = 0 }

  defined_as : (made : Table) → table_defined_by sql ≡ Ok it → table_defined_by sql ≡ Ok made → made ≡ it
  defined_as made one two = let same = sym two ∙ one in cc

  refused_as : (reason : Refusal) → table_defined_by sql ≡ Ok it → RefusesTable before sql reason → ⊥
  refused_as (Invalid e) defined h = let same = sym defined ∙ h in absurd cc
  refused_as NameTaken defined h =
      let made = defined_as h.0 defined h.1 in
      elim h.2 [
        | inl used ↦ both_ways _ fits.free (subst (λ (t : Table). is_used before t.name ≡ true) made used)
        | inr (index, has, used) ↦ both_ways _ (all_has (λ i. is_used before i.name ≡ false) _ index fits.keys_free
            (subst (λ (t : Table). Has (automatics t 0 0 t.uniques) index) made has)) used
      ]
  refused_as BadName defined h =
      let made = defined_as h.0 defined h.1 in
      elim h.2 [
        | inl bad ↦ bad (subst (λ (t : Table). IsUtf8 t.name) (sym made) (IsUtf8-from_is_utf8 table.name fits.named))
        | inr reserved ↦ both_ways _ fits.unreserved (subst (λ (t : Table). is_reserved t.name ≡ true) made reserved.0)
      ]
  refused_as TooBig defined h =
      let made = defined_as h.0 defined h.1 in
      elim h.2 [
        | inl many ↦ below _ _ fits.few (subst (λ (t : Table). 65536 ≤ next_tree before + length t.uniques) made many)
        | inr (inl reals) ↦ below _ _ fits.reals (subst (λ (t : Table). 2 ^ 64 ≤ table_reals t) made reals)
        | inr (inr (key, has, reals)) ↦ below _ _ (all_has (λ k. nat_lt (index_reals (table_reals table) k) (2 ^ 64) ≡ true) table.uniques key fits.key_reals
            (subst (λ (t : Table). Has t.uniques key) made has)) (subst (λ (t : Table). 2 ^ 64 ≤ index_reals (table_reals t) key) made reals)
      ]
  refused_as BadKey defined h =
      let made = defined_as h.0 defined h.1 in both_ways _ (subst (λ (t : Table). is_formed t ≡ false) made h.2) fits.formed
  refused_as BadText defined h =
      let made = defined_as h.0 defined h.1 in
      both_ways _ (subst (λ (t : Table). is_fit (Text (codes "table")) (Text t.name) (Text t.name) (Text sql) ≡ false) made h.2) fits.fit
  refused_as (Violates rule) defined h = h

  -- the statement is not refused, nor is its row too long
  never_stopped : (stop : Option Error) (db : Database) → db.schema ≡ before → table_defined_by sql ≡ Ok it → Making sql db (Err stop) → ⊥
  never_stopped None db has defined long =
      let made = defined_as long.0 defined long.1 in
      below _ _ fits.short (subst (λ (t : Table). 10 ^ 9 ≤ 2 * length t.name + length sql + 200) made long.2)
  never_stopped (Some e) db has defined (inl bad) = bad.0 (IsUtf8-from_is_utf8 sql fits.utf8)
  never_stopped (Some e) db has defined (inr why) = refused_as why.0 defined (subst (λ s. RefusesTable s sql why.0) has why.1)

  never_does : (stop : Option Error) (limit : Option ℕ) (mode : Mode) (db : Database) → db.schema ≡ before → table_defined_by sql ≡ Ok it
      → Does limit mode [] db sql None CreateTable (Err stop) → ⊥
  never_does stop limit mode db has defined (inr gave) = let e = gave.2 in absurd cc
  never_does stop limit mode db has defined (inl (why, inl (first, stops, is), same)) = never_stopped first db has defined stops
  never_does stop limit mode db has defined (inl (why, inr (after, made, next), same)) =
      let table_is = defined_as made.table defined made.defined in
      let schema : after.schema ≡ created before it = made.is ∙ ap (λ s. created s made.table) has ∙ ap (created before) table_is in
      let e = rw (ap lacks_sequence schema ∙ fits.plain) at next in absurd cc

  pub making_fails : MakesTable before sql table → (old new : State) (r : Result ℕ Error) → IsInside before old
      → (IsTrue old.in_transaction → ExecutesInside 0 sql [] old new r) → IfErr r (FailsFor old new)
  making_fails text old new (Ok count) at h = tt
  making_fails text old new (Err e) at h =
      inside_fails sql [] old new before at.schema_is CreateTable
      (record { is = text.command; plain = text.plain; whole = fits.whole; free = refl; no_query = refl; no_pragma = refl }) e
      (λ does. absurd (never (Some e) does)) (never None) (h at.mode)
    where
      never : (stop : Option Error) → Does old.step_limit (mode_of old) [] old.now (statement_of sql (understood before sql)) None CreateTable (Err stop) → ⊥
      never stop does =
          never_does stop old.step_limit (mode_of old) old.now at.schema_is text.defined
          (subst (λ t. Does old.step_limit (mode_of old) [] old.now t None CreateTable (Err stop)) text.statement does)

desk_fits : Fits schema_0 create_desk desk_table
unfolding understood everything chars is_utf8 value_cmp fits_kind is_free_name begins listed_name lib.Utf8.encode lib.Ieee.is_nan lib.Ieee.lt
desk_fits = fits schema_0 create_desk desk_table (refl, refl, refl) refl

panel_fits : Fits schema_1 create_panel panel_table
unfolding understood everything chars is_utf8 value_cmp fits_kind is_free_name begins listed_name lib.Utf8.encode lib.Ieee.is_nan lib.Ieee.lt
panel_fits = fits schema_1 create_panel panel_table (refl, refl, refl) refl

command_fits : Fits schema_2 create_command command_table
unfolding understood everything chars is_utf8 value_cmp fits_kind is_free_name begins listed_name lib.Utf8.encode lib.Ieee.is_nan lib.Ieee.lt
command_fits = fits schema_2 create_command command_table (refl, refl, refl) refl

place_fits : Fits schema_3 create_place place_table
unfolding understood everything chars is_utf8 value_cmp fits_kind is_free_name begins listed_name lib.Utf8.encode lib.Ieee.is_nan lib.Ieee.lt
place_fits = fits schema_3 create_place place_table (refl, refl, refl) refl

shown_fits : Fits schema_4 create_shown shown_table
unfolding understood everything chars is_utf8 value_cmp fits_kind is_free_name begins listed_name lib.Utf8.encode lib.Ieee.is_nan lib.Ieee.lt
shown_fits = fits schema_4 create_shown shown_table (refl, refl, refl) refl

imported_fits : Fits schema_5 create_imported imported_table
unfolding understood everything chars is_utf8 value_cmp fits_kind is_free_name begins listed_name lib.Utf8.encode lib.Ieee.is_nan lib.Ieee.lt
imported_fits = fits schema_5 create_imported imported_table (refl, refl, refl) refl

module _ (old new : State) (r : Result ℕ Error) where
  pub desk_fails : IsInside schema_0 old → (IsTrue old.in_transaction → ExecutesInside 0 create_desk [] old new r) → IfErr r (FailsFor old new)
  desk_fails = making_fails schema_0 create_desk desk_table desk_fits makes_desk old new r

  pub panel_fails : IsInside schema_1 old → (IsTrue old.in_transaction → ExecutesInside 0 create_panel [] old new r) → IfErr r (FailsFor old new)
  panel_fails = making_fails schema_1 create_panel panel_table panel_fits makes_panel old new r

  pub command_fails : IsInside schema_2 old → (IsTrue old.in_transaction → ExecutesInside 0 create_command [] old new r) → IfErr r (FailsFor old new)
  command_fails = making_fails schema_2 create_command command_table command_fits makes_command old new r

  pub place_fails : IsInside schema_3 old → (IsTrue old.in_transaction → ExecutesInside 0 create_place [] old new r) → IfErr r (FailsFor old new)
  place_fails = making_fails schema_3 create_place place_table place_fits makes_place old new r

  pub shown_fails : IsInside schema_4 old → (IsTrue old.in_transaction → ExecutesInside 0 create_shown [] old new r) → IfErr r (FailsFor old new)
  shown_fails = making_fails schema_4 create_shown shown_table shown_fits makes_shown old new r

  pub imported_fails : IsInside schema_5 old → (IsTrue old.in_transaction → ExecutesInside 0 create_imported [] old new r) → IfErr r (FailsFor old new)
  imported_fails = making_fails schema_5 create_imported imported_table imported_fits makes_imported old new r
