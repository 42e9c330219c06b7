-- The statements on the shown values.
use Rattle.std.proofs.Common.{◌≡◌, ◌&&◌, ◌∙◌, inl, inr, ℕ, ℤ, Option, Result, IfOk, Ok, Err, OnOk, true, false, List, [], ◌∷◌, codes, refl, sym, ap, subst}
use Rattle.std.proofs.lemmas.Slice.Eq.{bytes_eq-Decides}
use Rattle.sqlite_value.specs.declared.value.Value.TheVariants.{Int, Null, Text}
use Rattle.sqlite_value.specs.Keys.{first_key}
use Rattle.sqlite_value.specs.Order.{Row, column}
use Rattle.sqlite_catalog.specs.Listing.{automatic}
use Rattle.sqlite_rules.specs.Edit.{id_in}
use Rattle.sqlite_rules.proofs.TableLemmas.{int_is}
use Rattle.sqlite_trees.specs.Tree.{has_rowid, rowid}
use Rattle.store_sql_rows.proofs.AddLemmas.{adds_alone}
use Rattle.store_sql_rows.proofs.KeyLemmas.{one_number, text_is}
use Rattle.store_sql_rows.proofs.RewriteLemmas.{Aims, rewrites, rewrites_at}
use Rattle.sqlite_schema.specs.declared.schema.Constraint.TheVariants.{Datatype, NotNull}
use Rattle.sqlite_schema.specs.declared.schema.Kind.TheVariants as kind
use Rattle.sqlite_rules.specs.Lists.{Has}
use Rattle.sqlite_rules.proofs.ListLemmas.{all_has}
use Rattle.sqlite_sql.specs.Term.{lit, col}
use Rattle.sqlite.specs.declared.error.Error.{Error}
use Rattle.sqlite.specs.Effect.{Database}
use Rattle.sqlite.specs.State.{ExecutesInside, Shown, State}
use Rattle.store_sql_rows.specs.Schema.{column_of, shown_table, shown_tree}
use Rattle.store_sql_rows.specs.Meanings.{given, passes}
use Rattle.store_sql_rows.specs.Ours.{Adds, Changes, IsInside, IsOurs, Loses, Remakes, Rewrites, RewritesAt, is_between}
use Rattle.store_sql_rows.specs.Slot.{On, shown_slot}
use Rattle.store_sql_rows.proofs.BetweenLemmas.{keys_shown, passes_between, remakes, tied_between}
use Rattle.store_sql_rows.proofs.CellLemmas.{and_true, cast_cell, cast_int, cast_null, equal_rowid, equal_text, text_cell}
use Rattle.store_sql_rows.proofs.RestLemmas.{finds, finds_same}
use Rattle.store_sql_rows.specs.Looking.{Finds, ShowsInside, Stays}
use Rattle.store_sql_rows.proofs.SlotLemmas.{gains, is_shown, loses}
use Rattle.store_sql_rows.proofs.TypeLemmas.{IsFilled, first_filled, ruled}
use Rattle.store_sql_rows.proofs.ShownTexts.{add_runs, add_text, cells_set, cells_set_between, clear_runs, clear_text, find_runs, find_text, keys_between_runs, keys_between_text, set_at_runs, set_at_text, set_between_runs, set_between_text, set_runs, set_text}
use Rattle.store_sql_rows.proofs.Texts.{between}
use Rattle.store_sql_rows.specs.Cells.{cell_of, is_text}
use Rattle.store_sql_rows.specs.Rows.{of_schedule}

pub shown_cells : (db : Database) → IsOurs db → (row : Row) → Has (db.trees shown_tree) row → IsFilled kind.Text (column row 1)
shown_cells db ours row h =
    let typed = all_has _ (db.trees shown_tree) row (ruled Datatype db ours).1.1.1.1.0 h in
    let present = all_has _ (db.trees shown_tree) row (ruled NotNull db ours).1.1.1.1.0 h in
    let col2 = column_of (codes "value") kind.Integer false in
    first_filled shown_table (codes "schedule") kind.Text (col2 ∷ []) refl refl db.trees row typed present

pub passes_shown : (db : Database) → IsOurs db → (schedule : List ℕ) → (row : Row) → Has (db.trees shown_tree) row
    → passes (given 1 0 ∷ []) (Text schedule ∷ []) row ≡ of_schedule schedule row
passes_shown db ours schedule row h =
    let cell = shown_cells db ours row h in
    rw (equal_text schedule (column row 1) cell.of cell.filled, and_true) refl

pub clears : (schedule : List ℕ) → (old new : State) (result : Result ℕ Error) → IsInside old
    → ExecutesInside 0 clear_text (Text schedule ∷ []) old new result
    → OnOk result (Changes (On shown_slot (Loses (of_schedule schedule))) old new)
clears schedule old new result inside h =
    loses shown_slot is_shown clear_text clear_runs.plain (given 1 0 ∷ []) (of_schedule schedule) clear_runs.is
    (λ a b same. ap (λ l. is_text schedule (column l 0)) same) old new (Text schedule ∷ []) result
    (λ row h. passes_shown old.now inside.ours schedule row h) inside h

-- no two rows have one name
pub one_shown : (db : Database) → IsOurs db → (schedule : List ℕ) (a b : Row) → Has (db.trees shown_tree) a → Has (db.trees shown_tree) b
    → of_schedule schedule a ≡ true → of_schedule schedule b ≡ true → rowid a ≡ rowid b
unfolding first_key
one_shown db ours schedule a b ha hb is_a is_b =
    one_number (automatic shown_table 0 (1 ∷ []) 8) shown_table (1 ∷ []) db ours (inr (inr (inr (inr (inl refl)))))
    (inr (inr (inr (inl refl)))) refl ours.rows.shown a b ha hb
    (subst (λ v. passes (given 1 0 ∷ []) (v ∷ []) a ≡ true) (sym (text_is schedule (column b 1) is_b))
    (passes_shown db ours schedule a ha ∙ is_a))

pub adds : (schedule : List ℕ) (value : Option ℤ) → (old new : State) (result : Result ℕ Error) → IsInside old
    → ExecutesInside 0 add_text (Text schedule ∷ cell_of value ∷ []) old new result
    → OnOk result (Changes (On shown_slot (Adds (of_schedule schedule) (Text schedule ∷ cell_of value ∷ []))) old new)
adds schedule value old new result inside h =
    adds_alone shown_slot (of_schedule schedule) (Text schedule ∷ cell_of value ∷ []) old new result
    (λ id. (bytes_eq-Decides schedule schedule).1 refl)
    (λ it a b ha hb is_a is_b. one_shown new.now it.ours schedule a b ha hb is_a is_b)
    (gains shown_slot is_shown add_text add_runs.plain (codes "shown") shown_table.columns shown_table.checks
    (lit Null ∷ col 0 0 ∷ col 0 1 ∷ []) 3 shown_tree refl add_runs.is
    old new (Text schedule ∷ cell_of value ∷ []) (Text schedule ∷ cell_of value ∷ []) result
    (rw (cast_null, cast_cell value) refl) inside h)

-- an UPDATE of what is shown, whatever parameters it has besides
aims : (schedule : List ℕ) (value : Option ℤ) (more : Row) (old : State) → IsInside old
    → Aims shown_slot (of_schedule schedule) cells_set (Text schedule ∷ cell_of value ∷ more) (Text schedule ∷ cell_of value ∷ [])
    (old.now.trees shown_tree)
aims schedule value more old inside = record {
  by_key = λ a b same. ap (λ l. is_text schedule (column l 0)) same;
  one = λ a b ha hb is_a is_b. one_shown old.now inside.ours schedule a b ha hb is_a is_b;
  made = λ row h is.
      let number = int_is (rowid row) (inside.ours.rows.shown.numbered row h) in
      rw (text_is schedule (column row 1) is, cast_cell value, number, cast_int (id_in (rowid row))) refl;
}

pub sets : (schedule : List ℕ) (value : Option ℤ) → (old new : State) (result : Result ℕ Error) → IsInside old
    → ExecutesInside 0 set_text (Text schedule ∷ cell_of value ∷ []) old new result
    → IfOk result (λ count. Changes (On shown_slot (Rewrites (of_schedule schedule) (Text schedule ∷ cell_of value ∷ []) count)) old new)
sets schedule value old new result inside h =
    let cells = Text schedule ∷ cell_of value ∷ [] in
    rewrites shown_slot is_shown set_text set_runs.plain (given 1 0 ∷ []) cells_set set_runs.is (of_schedule schedule) old new cells cells
    result (aims schedule value [] old inside) inside h (λ row h. passes_shown old.now inside.ours schedule row h)

-- by the number of the row too
passes_at : (db : Database) → IsOurs db → (schedule : List ℕ) (value : Option ℤ) (number : ℤ) → (row : Row)
    → Has (db.trees shown_tree) row
    → passes (given 0 2 ∷ given 1 0 ∷ []) (Text schedule ∷ cell_of value ∷ Int number ∷ []) row
    ≡ (has_rowid number row && of_schedule schedule row)
passes_at db ours schedule value number row h =
    let cell = shown_cells db ours row h in
    rw (equal_rowid number row (ours.rows.shown.numbered row h), equal_text schedule (column row 1) cell.of cell.filled, and_true) refl

pub sets_at : (schedule : List ℕ) (value : Option ℤ) (number : ℤ) → (old new : State) (result : Result ℕ Error) → IsInside old
    → ExecutesInside 0 set_at_text (Text schedule ∷ cell_of value ∷ Int number ∷ []) old new result
    → IfOk result (λ count. Changes
    (On shown_slot (RewritesAt number (of_schedule schedule) (Text schedule ∷ cell_of value ∷ []) count)) old new)
sets_at schedule value number old new result inside h =
    rewrites_at shown_slot is_shown set_at_text set_at_runs.plain (given 0 2 ∷ given 1 0 ∷ []) cells_set set_at_runs.is
    (of_schedule schedule) old new (Text schedule ∷ cell_of value ∷ Int number ∷ []) (Text schedule ∷ cell_of value ∷ []) result
    (aims schedule value (Int number ∷ []) old inside) inside h number
    (λ row h. passes_at old.now inside.ours schedule value number row h)

-- the rows between two numbers
pub sets_between : (first last : ℤ) (value : Option ℤ) (old new : State) (result : Result ℕ Error) → IsInside old
    → ExecutesInside 0 set_between_text (Int first ∷ Int last ∷ cell_of value ∷ []) old new result
    → OnOk result (Changes (On shown_slot (Remakes (is_between first last)
    (λ row. rowid row ∷ column row 1 ∷ cell_of value ∷ []))) old new)
sets_between first last value old new result inside h =
    remakes shown_slot is_shown set_between_text set_between_runs.plain between cells_set_between set_between_runs.is (is_between first last)
    (λ row. rowid row ∷ column row 1 ∷ cell_of value ∷ []) (Int first ∷ Int last ∷ cell_of value ∷ []) old new inside
    (λ row h. passes_between first last (cell_of value ∷ []) row (inside.ours.rows.shown.numbered row h))
    (λ a b ha hb tied. tied_between first last a b tied)
    (λ row h.
    let cell = shown_cells old.now inside.ours row h in
    let schedule = text_cell (column row 1) cell.of cell.filled in
    let number = int_is (rowid row) (inside.ours.rows.shown.numbered row h) in
    rw (schedule.1, cast_cell value, number, cast_int (id_in (rowid row))) refl)
    (λ row. refl) result h

-- the queries

pub keys_found : {V : Type 0} (first last : ℤ) (old new : State) (items : V → List Row) (r : Result V Error) → IsInside old
    → IfOk r (λ v. ShowsInside keys_between_text (Int first ∷ Int last ∷ []) old new (items v))
    → IfOk r (λ v. Changes (Stays (λ kept. Finds (is_between first last) (λ row. column row 1 ∷ []) kept.shown (items v))) old new)
keys_found first last old new items r inside shown =
    keys_shown shown_slot is_shown keys_between_text (col 1 1 ∷ []) (codes "schedule" ∷ []) keys_between_runs
    first last old new items r inside shown

pub find_shown : {V : Type 0} (items : V → List Row) (schedule : List ℕ) (old new : State) (r : Result V Error) → IsOurs old.now
    → IfOk r (λ v. Shown find_text (Text schedule ∷ []) old new (items v))
    → IfOk r (λ v. Finds (of_schedule schedule) (λ row. column row 2 ∷ column row 0 ∷ []) (old.now.trees shown_tree) (items v))
find_shown items schedule old new (Err e) ours shown = tt
find_shown items schedule old new (Ok v) ours shown =
    finds_same (passes (given 1 0 ∷ []) (Text schedule ∷ [])) (of_schedule schedule) (λ row. column row 2 ∷ column row 0 ∷ [])
    (old.now.trees shown_tree) (items v) (λ row h. passes_shown old.now ours schedule row h)
    (finds find_text find_runs.plain find_runs.unlisted shown_tree (given 1 0 ∷ []) (col 1 2 ∷ col 1 0 ∷ []) (codes "value" ∷ codes "rowid" ∷ []) find_runs.is old new
    (Text schedule ∷ []) (items v) ours.schema_is shown)
