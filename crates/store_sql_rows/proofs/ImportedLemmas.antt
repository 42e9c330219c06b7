-- The statements on the imported entries.
use Rattle.std.proofs.Common.{◌≡◌, ◌∙◌, inl, inr, ℕ, Result, IfOk, Ok, Err, OnOk, true, ◌&&◌, List, [], ◌∷◌, codes, refl, sym, ap, subst₂}
use Rattle.sqlite_value.specs.declared.value.Value.TheVariants.{Null, Text}
use Rattle.std.proofs.lemmas.Bool.{and_parts}
use Rattle.std.proofs.lemmas.Slice.Eq.{bytes_eq-Decides}
use Rattle.sqlite_value.specs.Keys.{first_key}
use Rattle.sqlite_value.specs.Order.{Row, column}
use Rattle.sqlite_catalog.specs.Listing.{automatic}
use Rattle.sqlite_trees.specs.Tree.{rowid}
use Rattle.store_sql_rows.proofs.AddLemmas.{adds_alone}
use Rattle.store_sql_rows.proofs.KeyLemmas.{one_number, text_is}
use Rattle.sqlite_schema.specs.declared.schema.Constraint.TheVariants.{Datatype, NotNull}
use Rattle.sqlite_schema.specs.declared.schema.Kind.TheVariants as kind
use Rattle.sqlite_rules.specs.Lists.{Has}
use Rattle.sqlite_rules.proofs.ListLemmas.{all_has}
use Rattle.sqlite_sql.specs.declared.ops.CompareOp.TheVariants.{Ge}
use Rattle.sqlite_sql.specs.Term.{lit, col}
use Rattle.sqlite.specs.declared.error.Error.{Error}
use Rattle.sqlite.specs.Effect.{Database}
use Rattle.sqlite.specs.State.{ExecutesInside, Shown, State}
use Rattle.store_sql_rows.specs.Schema.{column_of, imported_table, imported_tree}
use Rattle.store_sql_rows.specs.Meanings.{compared_with, given, passes}
use Rattle.store_sql_rows.specs.Ours.{Adds, Changes, IsInside, IsOurs, Loses}
use Rattle.store_sql_rows.specs.Slot.{On, imported_slot}
use Rattle.store_sql_rows.proofs.CellLemmas.{from_text, and_true, cast_null, equal_text}
use Rattle.store_sql_rows.proofs.RestLemmas.{finds, finds_least, finds_same, least_same}
use Rattle.store_sql_rows.specs.Looking.{Finds, FindsLeast, is_from_text}
use Rattle.store_sql_rows.proofs.SlotLemmas.{gains, is_imported, loses}
use Rattle.store_sql_rows.proofs.TypeLemmas.{IsFilled, first_filled, ruled, second_filled}
use Rattle.store_sql_rows.proofs.ImportedTexts.{add_runs, add_text, clear_runs, clear_text, next_entry_runs, next_entry_text, of_calendar_runs, of_calendar_text}
use Rattle.store_sql_rows.specs.Cells.{is_text}
use Rattle.store_sql_rows.specs.Rows.{of_entry}

pub imported_cells : (db : Database) → IsOurs db → (row : Row) → Has (db.trees imported_tree) row
    → IsFilled kind.Text (column row 1) × IsFilled kind.Text (column row 2)
imported_cells db ours row h =
    let typed = all_has _ (db.trees imported_tree) row (ruled Datatype db ours).1.1.1.1.1.0 h in
    let present = all_has _ (db.trees imported_tree) row (ruled NotNull db ours).1.1.1.1.1.0 h in
    let col1 = column_of (codes "calendar") kind.Text true in
    let col2 = column_of (codes "entry") kind.Text true in (
      first_filled imported_table (codes "calendar") kind.Text (col2 ∷ []) refl refl db.trees row typed present,
      second_filled imported_table col1 (codes "entry") kind.Text ([]) refl refl db.trees row typed present,
    )

pub passes_imported : (db : Database) → IsOurs db → (calendar : List ℕ) (entry : List ℕ) → (row : Row) → Has (db.trees imported_tree) row
    → passes (given 1 0 ∷ given 2 1 ∷ []) (Text calendar ∷ Text entry ∷ []) row ≡ of_entry calendar entry row
passes_imported db ours calendar entry row h =
    let cells = imported_cells db ours row h in
    rw (
      equal_text calendar (column row 1) cells.0.of cells.0.filled,
      equal_text entry (column row 2) cells.1.of cells.1.filled,
      and_true,
    ) refl

pub clears : (calendar : List ℕ) (entry : List ℕ) → (old new : State) (result : Result ℕ Error) → IsInside old
    → ExecutesInside 0 clear_text (Text calendar ∷ Text entry ∷ []) old new result
    → OnOk result (Changes (On imported_slot (Loses (of_entry calendar entry))) old new)
clears calendar entry old new result inside h =
    loses imported_slot is_imported clear_text clear_runs.plain (given 1 0 ∷ given 2 1 ∷ []) (of_entry calendar entry) clear_runs.is
    (λ a b same. ap (λ l. is_text calendar (column l 0) && is_text entry (column l 1)) same) old new
    (Text calendar ∷ Text entry ∷ []) result
    (λ row h. passes_imported old.now inside.ours calendar entry row h) inside h

-- no two rows have one entry of a calendar
one_entry : (db : Database) → IsOurs db → (calendar entry : List ℕ) (a b : Row) → Has (db.trees imported_tree) a
    → Has (db.trees imported_tree) b
    → of_entry calendar entry a ≡ true → of_entry calendar entry b ≡ true → rowid a ≡ rowid b
unfolding first_key
one_entry db ours calendar entry a b ha hb is_a is_b =
    let parts = and_parts _ _ is_b in
    one_number (automatic imported_table 0 (1 ∷ 2 ∷ []) 10) imported_table (1 ∷ 2 ∷ []) db ours
    (inr (inr (inr (inr (inr (inl refl)))))) (inr (inr (inr (inr (inl refl))))) refl ours.rows.imported a b ha hb
    (subst₂ (λ v w. passes (given 1 0 ∷ given 2 1 ∷ []) (v ∷ w ∷ []) a ≡ true) (sym (text_is calendar (column b 1) parts.0))
    (sym (text_is entry (column b 2) parts.1))
    (passes_imported db ours calendar entry a ha ∙ is_a))

pub adds : (calendar : List ℕ) (entry : List ℕ) → (old new : State) (result : Result ℕ Error) → IsInside old
    → ExecutesInside 0 add_text (Text calendar ∷ Text entry ∷ []) old new result
    → OnOk result (Changes (On imported_slot (Adds (of_entry calendar entry) (Text calendar ∷ Text entry ∷ []))) old new)
adds calendar entry old new result inside h =
    adds_alone imported_slot (of_entry calendar entry) (Text calendar ∷ Text entry ∷ []) old new result
    (λ id. rw ((bytes_eq-Decides calendar calendar).1 refl, (bytes_eq-Decides entry entry).1 refl) refl)
    (λ it a b ha hb is_a is_b. one_entry new.now it.ours calendar entry a b ha hb is_a is_b)
    (gains imported_slot is_imported add_text add_runs.plain (codes "imported") imported_table.columns imported_table.checks
    (lit Null ∷ col 0 0 ∷ col 0 1 ∷ []) 3 imported_tree refl add_runs.is
    old new (Text calendar ∷ Text entry ∷ []) (Text calendar ∷ Text entry ∷ []) result
    (rw (cast_null) refl) inside h)

-- the queries

passes_next_entry : (db : Database) → IsOurs db → (calendar : List ℕ) (from : List ℕ) → (row : Row) → Has (db.trees imported_tree) row
    → passes (given 1 0 ∷ compared_with Ge 2 1 ∷ []) (Text calendar ∷ Text from ∷ []) row
    ≡ (is_text calendar (column row 1) && is_from_text from (column row 2))
passes_next_entry db ours calendar from row h =
    let cells = imported_cells db ours row h in
    rw (
      equal_text calendar (column row 1) cells.0.of cells.0.filled,
      from_text from (column row 2) cells.1.of cells.1.filled,
      and_true,
    ) refl

pub next_entry_shown : {V : Type 0} (items : V → List Row) (calendar : List ℕ) (from : List ℕ) (old new : State) (r : Result V Error)
    → IsOurs old.now
    → IfOk r (λ v. Shown next_entry_text (Text calendar ∷ Text from ∷ []) old new (items v))
    → IfOk r (λ v. FindsLeast (λ row. is_text calendar (column row 1) && is_from_text from (column row 2)) 2
    (old.now.trees imported_tree) (items v))
next_entry_shown items calendar from old new (Err e) ours shown = tt
next_entry_shown items calendar from old new (Ok v) ours shown =
    least_same (passes (given 1 0 ∷ compared_with Ge 2 1 ∷ []) (Text calendar ∷ Text from ∷ []))
    (λ row. is_text calendar (column row 1) && is_from_text from (column row 2)) 2 (old.now.trees imported_tree) (items v)
    (λ row h. passes_next_entry old.now ours calendar from row h)
    (finds_least next_entry_text next_entry_runs.plain next_entry_runs.unlisted imported_tree (given 1 0 ∷ compared_with Ge 2 1 ∷ []) 2
    (codes "entry" ∷ []) next_entry_runs.is old new (Text calendar ∷ Text from ∷ []) (items v) ours.schema_is shown)

passes_calendar : (db : Database) → IsOurs db → (calendar : List ℕ) (row : Row) → Has (db.trees imported_tree) row
    → passes (given 1 0 ∷ []) (Text calendar ∷ []) row ≡ is_text calendar (column row 1)
passes_calendar db ours calendar row h =
    let cells = imported_cells db ours row h in
    rw (equal_text calendar (column row 1) cells.0.of cells.0.filled, and_true) refl

pub of_calendar_shown : {V : Type 0} (items : V → List Row) (calendar : List ℕ) (old new : State) (r : Result V Error) → IsOurs old.now
    → IfOk r (λ v. Shown of_calendar_text (Text calendar ∷ []) old new (items v))
    → IfOk r (λ v. Finds (λ row. is_text calendar (column row 1)) (λ row. column row 2 ∷ []) (old.now.trees imported_tree) (items v))
of_calendar_shown items calendar old new (Err e) ours shown = tt
of_calendar_shown items calendar old new (Ok v) ours shown =
    finds_same (passes (given 1 0 ∷ []) (Text calendar ∷ [])) (λ row. is_text calendar (column row 1)) (λ row. column row 2 ∷ [])
    (old.now.trees imported_tree) (items v) (λ row h. passes_calendar old.now ours calendar row h)
    (finds of_calendar_text of_calendar_runs.plain of_calendar_runs.unlisted imported_tree (given 1 0 ∷ []) (col 1 2 ∷ [])
    (codes "entry" ∷ []) of_calendar_runs.is old new (Text calendar ∷ []) (items v) ours.schema_is shown)
