-- The statements on the next numbers.
use Rattle.std.proofs.Common.{◌≡◌, inl, inr, ℕ, ℤ, ◌&&◌, Result, IfOk, Ok, Err, OnOk, pos, true, List, [], ◌∷◌, codes, refl, sym, ap, subst, ◌∙◌}
use Rattle.std.proofs.lemmas.Slice.Eq.{bytes_eq-Decides}
use Rattle.sqlite_value.specs.declared.value.Value.TheVariants.{Int, Null, Text}
use Rattle.sqlite_value.specs.Keys.{first_key}
use Rattle.sqlite_value.specs.Order.{Row, column}
use Rattle.sqlite_schema.specs.declared.schema.Constraint.TheVariants.{Datatype, NotNull}
use Rattle.sqlite_schema.specs.declared.schema.Kind.TheVariants as kind
use Rattle.sqlite_catalog.specs.Listing.{automatic}
use Rattle.sqlite_rules.specs.Edit.{id_in}
use Rattle.sqlite_rules.specs.Lists.{Has}
use Rattle.sqlite_rules.proofs.ListLemmas.{all_has}
use Rattle.sqlite_rules.proofs.TableLemmas.{int_is}
use Rattle.sqlite_trees.specs.Tree.{has_rowid, rowid}
use Rattle.sqlite_sql.specs.Term.{lit, col}
use Rattle.sqlite.specs.declared.error.Error.{Error}
use Rattle.sqlite.specs.Effect.{Database}
use Rattle.sqlite.specs.State.{ExecutesInside, Shown, State}
use Rattle.store_sql_rows.specs.Schema.{column_of, panel_table, panel_tree}
use Rattle.store_sql_rows.specs.Meanings.{given, passes}
use Rattle.store_sql_rows.specs.Ours.{Adds, Changes, IsInside, IsOurs, Rewrites, RewritesAt}
use Rattle.store_sql_rows.specs.Slot.{On, panel_slot}
use Rattle.store_sql_rows.proofs.CellLemmas.{and_true, cast_int, cast_null, equal_rowid, equal_text}
use Rattle.store_sql_rows.proofs.AddLemmas.{adds_alone}
use Rattle.store_sql_rows.proofs.KeyLemmas.{one_number, text_is}
use Rattle.store_sql_rows.proofs.RewriteLemmas.{Aims, rewrites, rewrites_at}
use Rattle.store_sql_rows.proofs.RestLemmas.{finds, finds_same}
use Rattle.store_sql_rows.specs.Looking.{Finds}
use Rattle.store_sql_rows.proofs.SlotLemmas.{gains, is_panel}
use Rattle.store_sql_rows.proofs.TypeLemmas.{IsFilled, first_filled, ruled}
use Rattle.store_sql_rows.proofs.PanelTexts.{add_runs, add_text, cells_set, find_runs, find_text, set_at_runs, set_at_text, set_runs, set_text}
use Rattle.store_sql_rows.specs.Cells.{is_text}
use Rattle.store_sql_rows.specs.Rows.{of_panel}

pub panel_cells : (db : Database) → IsOurs db → (row : Row) → Has (db.trees panel_tree) row → IsFilled kind.Text (column row 1)
panel_cells db ours row h =
    let typed = all_has _ (db.trees panel_tree) row (ruled Datatype db ours).1.0 h in
    let present = all_has _ (db.trees panel_tree) row (ruled NotNull db ours).1.0 h in
    let col2 = column_of (codes "next") kind.Integer true in
    first_filled panel_table (codes "name") kind.Text (col2 ∷ []) refl refl db.trees row typed present

pub passes_panel : (db : Database) → IsOurs db → (panel : List ℕ) → (row : Row) → Has (db.trees panel_tree) row
    → passes (given 1 0 ∷ []) (Text panel ∷ []) row ≡ of_panel panel row
passes_panel db ours panel row h =
    let cell = panel_cells db ours row h in
    rw (equal_text panel (column row 1) cell.of cell.filled, and_true) refl

-- no two rows have one name
one_panel : (db : Database) → IsOurs db → (panel : List ℕ) (a b : Row) → Has (db.trees panel_tree) a → Has (db.trees panel_tree) b
    → of_panel panel a ≡ true → of_panel panel b ≡ true → rowid a ≡ rowid b
unfolding first_key
one_panel db ours panel a b ha hb is_a is_b =
    one_number (automatic panel_table 0 (1 ∷ []) 2) panel_table (1 ∷ []) db ours (inr (inl refl)) (inl refl) refl ours.rows.panel a b ha hb
    (subst (λ v. passes (given 1 0 ∷ []) (v ∷ []) a ≡ true) (sym (text_is panel (column b 1) is_b))
    (passes_panel db ours panel a ha ∙ is_a))

pub adds : (panel : List ℕ) (next : ℕ) → (old new : State) (result : Result ℕ Error) → IsInside old
    → ExecutesInside 0 add_text (Text panel ∷ Int (pos next) ∷ []) old new result
    → OnOk result (Changes (On panel_slot (Adds (of_panel panel) (Text panel ∷ Int (pos next) ∷ []))) old new)
adds panel next old new result inside h =
    adds_alone panel_slot (of_panel panel) (Text panel ∷ Int (pos next) ∷ []) old new result
    (λ id. (bytes_eq-Decides panel panel).1 refl)
    (λ it a b ha hb is_a is_b. one_panel new.now it.ours panel a b ha hb is_a is_b)
    (gains panel_slot is_panel add_text add_runs.plain (codes "panel") panel_table.columns panel_table.checks
    (lit Null ∷ col 0 0 ∷ col 0 1 ∷ []) 3 panel_tree refl add_runs.is
    old new (Text panel ∷ Int (pos next) ∷ []) (Text panel ∷ Int (pos next) ∷ []) result
    (rw (cast_null, cast_int (pos next)) refl) inside h)

-- an UPDATE of the next number, whatever parameters it has besides
aims : (panel : List ℕ) (next : ℕ) (more : Row) (old : State) → IsInside old
    → Aims panel_slot (of_panel panel) cells_set (Text panel ∷ Int (pos next) ∷ more) (Text panel ∷ Int (pos next) ∷ [])
    (old.now.trees panel_tree)
aims panel next more old inside = record {
  by_key = λ a b same. ap (λ l. is_text panel (column l 0)) same;
  one = λ a b ha hb is_a is_b. one_panel old.now inside.ours panel a b ha hb is_a is_b;
  made = λ row h is.
      let number = int_is (rowid row) (inside.ours.rows.panel.numbered row h) in
      rw (text_is panel (column row 1) is, cast_int (pos next), number, cast_int (id_in (rowid row))) refl;
}

pub sets : (panel : List ℕ) (next : ℕ) → (old new : State) (result : Result ℕ Error) → IsInside old
    → ExecutesInside 0 set_text (Text panel ∷ Int (pos next) ∷ []) old new result
    → IfOk result (λ count. Changes (On panel_slot (Rewrites (of_panel panel) (Text panel ∷ Int (pos next) ∷ []) count)) old new)
sets panel next old new result inside h =
    let cells = Text panel ∷ Int (pos next) ∷ [] in
    rewrites panel_slot is_panel set_text set_runs.plain (given 1 0 ∷ []) cells_set set_runs.is (of_panel panel) old new cells cells
    result (aims panel next [] old inside) inside h (λ row h. passes_panel old.now inside.ours panel row h)

-- by the number of the row too
passes_at : (db : Database) → IsOurs db → (panel : List ℕ) (next : ℕ) (number : ℤ) → (row : Row) → Has (db.trees panel_tree) row
    → passes (given 0 2 ∷ given 1 0 ∷ []) (Text panel ∷ Int (pos next) ∷ Int number ∷ []) row
    ≡ (has_rowid number row && of_panel panel row)
passes_at db ours panel next number row h =
    let cell = panel_cells db ours row h in
    rw (equal_rowid number row (ours.rows.panel.numbered row h), equal_text panel (column row 1) cell.of cell.filled, and_true) refl

pub sets_at : (panel : List ℕ) (next : ℕ) (number : ℤ) → (old new : State) (result : Result ℕ Error) → IsInside old
    → ExecutesInside 0 set_at_text (Text panel ∷ Int (pos next) ∷ Int number ∷ []) old new result
    → IfOk result (λ count. Changes (On panel_slot (RewritesAt number (of_panel panel) (Text panel ∷ Int (pos next) ∷ []) count)) old new)
sets_at panel next number old new result inside h =
    rewrites_at panel_slot is_panel set_at_text set_at_runs.plain (given 0 2 ∷ given 1 0 ∷ []) cells_set set_at_runs.is (of_panel panel)
    old new (Text panel ∷ Int (pos next) ∷ Int number ∷ []) (Text panel ∷ Int (pos next) ∷ []) result
    (aims panel next (Int number ∷ []) old inside) inside h number
    (λ row h. passes_at old.now inside.ours panel next number row h)

-- the queries

pub find_shown : {V : Type 0} (items : V → List Row) (panel : List ℕ) (old new : State) (r : Result V Error) → IsOurs old.now
    → IfOk r (λ v. Shown find_text (Text panel ∷ []) old new (items v))
    → IfOk r (λ v. Finds (of_panel panel) (λ row. column row 2 ∷ column row 0 ∷ []) (old.now.trees panel_tree) (items v))
find_shown items panel old new (Err e) ours shown = tt
find_shown items panel old new (Ok v) ours shown =
    finds_same (passes (given 1 0 ∷ []) (Text panel ∷ [])) (of_panel panel) (λ row. column row 2 ∷ column row 0 ∷ []) (old.now.trees panel_tree)
    (items v) (λ row h. passes_panel old.now ours panel row h)
    (finds find_text find_runs.plain find_runs.unlisted panel_tree (given 1 0 ∷ []) (col 1 2 ∷ col 1 0 ∷ []) (codes "next" ∷ codes "rowid" ∷ []) find_runs.is old new
    (Text panel ∷ []) (items v) ours.schema_is shown)
