-- What a statement on one of the keyed tables makes of the rows of the six.
use Rattle.std.proofs.Common.{◌≡◌, ◌≢◌, ◌==◌, cond, inl, inr, ℕ, Bool, true, false, not, List, length, ◌/◌, [], ◌∷◌, ◌++◌, filter, map, slice_get, Some, Ok, Err, Result, refl, sym, ap, subst, subst₂, ◌∙◌, OnOk}
use Rattle.std.proofs.lemmas.Bool.{and_parts, both_ways, cases_Bool, eq-eqb}
use Rattle.std.specs.List.Sorted.{IsPermutation}
use Rattle.sqlite_value.specs.declared.value.Value.TheVariants.{Int, Null}
use Rattle.sqlite_value.specs.Order.{Row, column}
use Rattle.sqlite_schema.specs.declared.schema.Column.{Column}
use Rattle.sqlite_schema.specs.declared.schema.Keys.TheVariants.{Enforced}
use Rattle.sqlite_schema.specs.declared.command.Command.TheVariants.{Insert}
use Rattle.sqlite_schema.specs.declared.command.Source.TheVariants.{Values}
use Rattle.sqlite_sql.specs.Term.{Term}
use Rattle.sqlite_rules.specs.declared.error.Rowids.TheVariants.{Chosen}
use Rattle.sqlite_rules.specs.Edit.{Applies, Edit, are_fresh, edit_of, is_taken, next_rowid, numbered, put_all}
use Rattle.sqlite_rules.specs.Cast.{cast_row}
use Rattle.sqlite_rules.specs.Lists.{Has}
use Rattle.sqlite_trees.specs.Tree.{Trees, put_row, rowid}
use Rattle.sqlite.specs.declared.error.Error.{Error}
use Rattle.sqlite.specs.Effect.{value_rows}
use Rattle.sqlite.specs.Given.{IsPlain}
use Rattle.sqlite.specs.Listing.{understood}
use Rattle.sqlite.specs.State.{ExecutesInside, Shows, State}
use Rattle.sqlite.proofs.Callers.{command_of}
use Rattle.store_sql_rows.specs.Schema.{command_tree, desk_schema, desk_tree, imported_tree, keyed_table, panel_tree, place_tree, shown_tree}
use Rattle.store_sql_rows.specs.Meanings.{deletion, passes}
use Rattle.store_sql_rows.specs.Ours.{AreOurs, AreOwn, Changes, Gains, HasOneMore, IsInside, IsOne, Loses, kept_in}
use Rattle.store_sql_rows.specs.Slot.{On, Slot, command_slot, imported_slot, panel_slot, place_slot, shown_slot}
use Rattle.store_sql_rows.proofs.RowLemmas.{deleted, filter_same, own_filtered, own_put, put_apart}
use Rattle.store_sql_rows.proofs.WriteLemmas.{Ran, adds, removes}
use Rattle.store_sql_rows.specs.Stored.{Kept}

pub record IsSlot (slot : Slot) : Type 0 where
  pub found : slice_get desk_schema.tables slot.at ≡ Some slot.table
  pub stands : (db : Trees) → slot.get (kept_in db) ≡ db slot.table.tree
  pub others : (db next : Trees) (edit : Edit) → edit.table ≡ slot.table → Applies desk_schema Enforced db edit next
      → kept_in next ≡ slot.set (next slot.table.tree) (kept_in db)
  pub own : (kept : Kept) → AreOurs kept → AreOwn slot.key (slot.get kept)
  pub with_own : (kept : Kept) (rows : List Row) → AreOurs kept → AreOwn slot.key rows → AreOurs (slot.set rows kept)

stays_apart : {A : Type 0} (t tree : ℕ) (was now : A) → (t ≢ tree → now ≡ was) → now ≡ cond (t == tree) now was
stays_apart t tree was now stays =
    elim (cases_Bool (t == tree)) [ inl same ↦ rw same refl | inr other ↦ rw other (stays (λ e. both_ways _ other (eq-eqb t tree e))) ]

-- an edit of one table leaves the rows of the others
pub others_stay : (db next : Trees) (edit : Edit) (tree : ℕ) → edit.table.tree ≡ tree → Applies desk_schema Enforced db edit next
    → kept_in next ≡ kept_in (λ t. cond (t == tree) (next t) (db t))
others_stay db next edit tree is applied =
    let stays : (t : ℕ) → (t ≢ edit.table.tree → next t ≡ db t) → next t ≡ cond (t == tree) (next t) (db t) =
    λ t unless. stays_apart t tree (db t) (next t) (λ other. unless (λ e. other (e ∙ is))) in
    let tables = applied.tables in
    λ i. record {
      desk = stays desk_tree tables.0 i;
      panel = stays panel_tree tables.1.0 i;
      command = stays command_tree tables.1.1.0 i;
      place = stays place_tree tables.1.1.1.0 i;
      shown = stays shown_tree tables.1.1.1.1.0 i;
      imported = stays imported_tree tables.1.1.1.1.1.0 i;
    }

pub ours_from : (kept : Kept) → IsOne kept.desk → AreOwn (1 ∷ []) kept.panel → AreOwn (1 ∷ 2 ∷ []) kept.command
    → AreOwn (1 ∷ 2 ∷ []) kept.place → AreOwn (1 ∷ []) kept.shown → AreOwn (1 ∷ 2 ∷ []) kept.imported → AreOurs kept
ours_from kept desk panel command place shown imported =
    record { desk = desk; panel = panel; command = command; place = place; shown = shown; imported = imported }

pub is_panel : IsSlot panel_slot
is_panel = record {
  found = refl;
  stands = λ db. refl;
  others = λ db next edit is applied. others_stay db next edit 1 (ap (λ table. table.tree) is) applied;
  own = λ kept ours. ours.panel;
  with_own = λ kept rows ours own. ours_from _ ours.desk own ours.command ours.place ours.shown ours.imported;
}

pub is_command : IsSlot command_slot
is_command = record {
  found = refl;
  stands = λ db. refl;
  others = λ db next edit is applied. others_stay db next edit 3 (ap (λ table. table.tree) is) applied;
  own = λ kept ours. ours.command;
  with_own = λ kept rows ours own. ours_from _ ours.desk ours.panel own ours.place ours.shown ours.imported;
}

pub is_place : IsSlot place_slot
is_place = record {
  found = refl;
  stands = λ db. refl;
  others = λ db next edit is applied. others_stay db next edit 5 (ap (λ table. table.tree) is) applied;
  own = λ kept ours. ours.place;
  with_own = λ kept rows ours own. ours_from _ ours.desk ours.panel ours.command own ours.shown ours.imported;
}

pub is_shown : IsSlot shown_slot
is_shown = record {
  found = refl;
  stands = λ db. refl;
  others = λ db next edit is applied. others_stay db next edit 7 (ap (λ table. table.tree) is) applied;
  own = λ kept ours. ours.shown;
  with_own = λ kept rows ours own. ours_from _ ours.desk ours.panel ours.command ours.place own ours.imported;
}

pub is_imported : IsSlot imported_slot
is_imported = record {
  found = refl;
  stands = λ db. refl;
  others = λ db next edit is applied. others_stay db next edit 9 (ap (λ table. table.tree) is) applied;
  own = λ kept ours. ours.imported;
  with_own = λ kept rows ours own. ours_from _ ours.desk ours.panel ours.command ours.place ours.shown own;
}

pub not_true : (b : Bool) → not b ≡ true → b ≡ false
not_true false is = refl
not_true true is = sym is

module _ (slot : Slot) (is_slot : IsSlot slot) (sql : List ℕ) (plain : IsPlain (understood desk_schema sql)) where
  pub changed : (Rows : List Row → List Row → Type 0) (edit : Edit) (old new : State) → edit.table ≡ slot.table → IsInside old
      → Shows old new new.now old.committed true → Ran old new edit
      → AreOwn slot.key (new.now.trees slot.table.tree) → Rows (old.now.trees slot.table.tree) (new.now.trees slot.table.tree)
      → Changes (On slot Rows) old new
  changed Rows edit old new on inside seen ran own rows =
      let was = kept_in old.now.trees in
      let others = is_slot.others old.now.trees new.now.trees edit on ran.applies in
      record {
        seen = seen;
        ours =
            record {
              schema_is = ran.schema;
              sound = ran.sound;
              rows = subst AreOurs (sym others) (is_slot.with_own was (new.now.trees slot.table.tree) inside.ours.rows own);
            };
        change = record {
          others = others ∙ ap (λ l. slot.set l was) (sym (is_slot.stands new.now.trees));
          rows = subst₂ Rows (sym (is_slot.stands old.now.trees)) (sym (is_slot.stands new.now.trees)) rows;
        };
      }

  pub own_rows : (s : State) → IsInside s → AreOwn slot.key (s.now.trees slot.table.tree)
  own_rows s inside = subst (AreOwn slot.key) (is_slot.stands s.now.trees) (is_slot.own (kept_in s.now.trees) inside.ours.rows)

  -- a statement that removes the rows of a key
  pub loses : (terms : List Term) (gone : Row → Bool) → command_of (understood desk_schema sql) ≡ deletion slot.at slot.table.tree terms
      → ((a b : Row) → map (column a) slot.key ≡ map (column b) slot.key → gone a ≡ gone b)
      → (old new : State) (params : Row) (result : Result ℕ Error)
      → ((row : Row) → Has (old.now.trees slot.table.tree) row → passes terms params row ≡ gone row)
      → IsInside old → ExecutesInside 0 sql params old new result → OnOk result (Changes (On slot (Loses gone)) old new)
  loses terms gone is by_key old new params (Err e) same inside h = tt
  loses terms gone is by_key old new params (Ok count) same inside h =
      let rows = old.now.trees slot.table.tree in
      let own = own_rows old inside in
      let gave =
      removes sql slot.at slot.table is_slot.found plain slot.table.tree terms is old new params count inside.ours.schema_is h.0 in
      let picked =
      subst (λ l. IsPermutation (map (λ r. rowid r ∷ []) l) gave.0) (filter_same (passes terms params) gone rows same) gave.1 in
      let left : new.now.trees slot.table.tree ≡ filter (λ r. not (gone r)) rows =
      gave.2.applies.rows ∙ deleted gone rows gave.0 own.numbered (λ a b ha hb tied. by_key a b (own.apart a b ha hb tied)) picked in
      changed (Loses gone) _ old new refl inside h.1 gave.2
      (subst (AreOwn slot.key) (sym left) (own_filtered (λ r. not (gone r)) slot.key rows own)) left

  -- a statement that adds a row
  pub gains : (name : List ℕ) (columns : List Column) (checks terms : List Term) (width : ℕ) (tree : ℕ)
      → slot.table ≡ keyed_table name tree columns slot.key checks
      → command_of (understood desk_schema sql) ≡ Insert slot.at (Values terms width)
      → (old new : State) (params cells : Row) (result : Result ℕ Error)
      → map (cast_row slot.table) (value_rows (params ++ []) width (length terms / width) terms) ≡ (Null ∷ cells) ∷ []
      → IsInside old → ExecutesInside 0 sql params old new result → OnOk result (Changes (On slot (Gains cells)) old new)
  gains name columns checks terms width tree table is old new params cells (Err e) given inside h = tt
  gains name columns checks terms width tree table is old new params cells (Ok count) given inside h =
      let db = old.now.trees in
      let rows = db slot.table.tree in
      let sources = value_rows (params ++ []) width (length terms / width) terms in
      let added =
      adds sql slot.at name tree columns slot.key checks (is_slot.found ∙ ap Some table) plain terms width is old new params
      count inside.ours.schema_is h.0 in
      let ran : Ran old new (edit_of db slot.table [] Chosen 0 sources) =
      subst (λ t. Ran old new (edit_of db t [] Chosen 0 sources)) (sym table) added in
      let id = Int (next_rowid rows) in
      let row = id ∷ cells in
      let news : numbered Chosen rows (map (cast_row slot.table) sources) ≡ row ∷ [] = ap (numbered Chosen rows) given in
      let free : is_taken rows row ≡ false = not_true _ (and_parts _ _ (subst (λ l. are_fresh rows l ≡ true) news ran.applies.fresh)).0 in
      let now : new.now.trees slot.table.tree ≡ put_row row rows = ran.applies.rows ∙ ap (put_all rows) news in
      changed (Gains cells) _ old new refl inside h.1 ran
      (subst (AreOwn slot.key) (sym now) (own_put row slot.key rows refl free (own_rows old inside)))
      (record { id = id; free = free; more = subst (HasOneMore row rows) (sym now) (put_apart row rows free) })
