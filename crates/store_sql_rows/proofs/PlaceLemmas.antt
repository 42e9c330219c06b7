-- The statements on the places.
use Rattle.std.proofs.Common.{◌≡◌, inl, inr, ℕ, ℤ, Result, IfOk, Ok, Err, OnOk, pos, true, ◌&&◌, List, [], ◌∷◌, codes, refl, sym, ap, subst₂, ◌∙◌}
use Rattle.std.proofs.lemmas.Bool.{and_parts}
use Rattle.std.proofs.lemmas.Slice.Eq.{bytes_eq-Decides}
use Rattle.std.proofs.lemmas.Bool.Decides.{Decides-eqb}
use Rattle.sqlite_value.specs.declared.value.Value.TheVariants.{Int, Null, Text}
use Rattle.sqlite_value.specs.Keys.{first_key}
use Rattle.sqlite_value.specs.Order.{Row, column}
use Rattle.sqlite_schema.specs.declared.schema.Constraint.TheVariants.{Datatype, NotNull}
use Rattle.sqlite_schema.specs.declared.schema.Kind.TheVariants as kind
use Rattle.sqlite_catalog.specs.Listing.{automatic}
use Rattle.sqlite_rules.specs.Edit.{id_in}
use Rattle.sqlite_rules.specs.Lists.{Has}
use Rattle.sqlite_rules.proofs.ListLemmas.{all_has}
use Rattle.sqlite_rules.proofs.TableLemmas.{int_is}
use Rattle.sqlite_trees.specs.Tree.{has_rowid, rowid}
use Rattle.sqlite.specs.Effect.{Database}
use Rattle.store_sql_rows.specs.Schema.{column_of, place_table, place_tree}
use Rattle.store_sql_rows.specs.Meanings.{given, passes}
use Rattle.store_sql_rows.specs.Ours.{IsOurs}
use Rattle.store_sql_rows.proofs.BetweenLemmas.{keys_shown, passes_between, remakes, tied_between}
use Rattle.store_sql_rows.proofs.CellLemmas.{and_true, cast_int, cast_null, equal_count, equal_rowid, equal_text, int_cell, text_cell}
use Rattle.store_sql_rows.proofs.TypeLemmas.{IsFilled, first_filled, ruled, second_filled}
use Rattle.sqlite_sql.specs.Term.{lit, col}
use Rattle.sqlite.specs.declared.error.Error.{Error}
use Rattle.sqlite.specs.State.{ExecutesInside, Shown, State}
use Rattle.store_sql_rows.specs.Ours.{Adds, Changes, IsInside, Loses, Remakes, Rewrites, RewritesAt, is_between}
use Rattle.store_sql_rows.specs.Slot.{On, place_slot}
use Rattle.store_sql_rows.proofs.PlaceTexts.{add_runs, add_text, cells_set, cells_set_between, clear_runs, clear_text, keys_between_runs, keys_between_text, of_point_runs, of_point_text, set_at_runs, set_at_text, set_between_runs, set_between_text, set_runs, set_text}
use Rattle.store_sql_rows.proofs.AddLemmas.{adds_alone}
use Rattle.store_sql_rows.proofs.KeyLemmas.{count_is, one_number, text_is}
use Rattle.store_sql_rows.proofs.RewriteLemmas.{Aims, rewrites, rewrites_at}
use Rattle.store_sql_rows.proofs.RestLemmas.{finds, finds_same}
use Rattle.store_sql_rows.specs.Looking.{Finds, ShowsInside, Stays}
use Rattle.store_sql_rows.proofs.SlotLemmas.{gains, is_place, loses}
use Rattle.store_sql_rows.proofs.Texts.{between}
use Rattle.store_sql_rows.specs.Cells.{is_count, is_text}
use Rattle.store_sql_rows.specs.Rows.{of_place}

pub place_cells : (db : Database) → IsOurs db → (row : Row) → Has (db.trees place_tree) row
    → IsFilled kind.Text (column row 1) × IsFilled kind.Integer (column row 2)
place_cells db ours row h =
    let typed = all_has _ (db.trees place_tree) row (ruled Datatype db ours).1.1.1.0 h in
    let present = all_has _ (db.trees place_tree) row (ruled NotNull db ours).1.1.1.0 h in
    let value = column_of (codes "value") kind.Integer true in
    let priority = column_of (codes "priority") kind.Integer true in
    let point = column_of (codes "point") kind.Text true in (
      first_filled place_table (codes "point") kind.Text (priority ∷ value ∷ []) refl refl db.trees row typed present,
      second_filled place_table point (codes "priority") kind.Integer (value ∷ []) refl refl db.trees row typed present,
    )

pub passes_place : (db : Database) → IsOurs db → (point : List ℕ) (priority : ℕ) (row : Row) → Has (db.trees place_tree) row
    → passes (given 1 0 ∷ given 2 1 ∷ []) (Text point ∷ Int (pos priority) ∷ []) row ≡ of_place point priority row
passes_place db ours point priority row h =
    let cells = place_cells db ours row h in
    rw (
      equal_text point (column row 1) cells.0.of cells.0.filled,
      equal_count priority (column row 2) cells.1.of cells.1.filled,
      and_true,
    ) refl

pub clears : (point : List ℕ) (priority : ℕ) (old new : State) (result : Result ℕ Error) → IsInside old
    → ExecutesInside 0 clear_text (Text point ∷ Int (pos priority) ∷ []) old new result
    → OnOk result (Changes (On place_slot (Loses (of_place point priority))) old new)
clears point priority old new result inside h =
    loses place_slot is_place clear_text clear_runs.plain (given 1 0 ∷ given 2 1 ∷ []) (of_place point priority) clear_runs.is
    (λ a b same. ap (λ l. is_text point (column l 0) && is_count priority (column l 1)) same) old new
    (Text point ∷ Int (pos priority) ∷ []) result
    (λ row h. passes_place old.now inside.ours point priority row h) inside h

-- no two rows have one place
pub one_place : (db : Database) → IsOurs db → (point : List ℕ) (priority : ℕ) (a b : Row) → Has (db.trees place_tree) a
    → Has (db.trees place_tree) b
    → of_place point priority a ≡ true → of_place point priority b ≡ true → rowid a ≡ rowid b
unfolding first_key
one_place db ours point priority a b ha hb is_a is_b =
    let parts = and_parts _ _ is_b in
    one_number (automatic place_table 0 (1 ∷ 2 ∷ []) 6) place_table (1 ∷ 2 ∷ []) db ours (inr (inr (inr (inl refl))))
    (inr (inr (inl refl))) refl ours.rows.place a b ha hb
    (subst₂ (λ v w. passes (given 1 0 ∷ given 2 1 ∷ []) (v ∷ w ∷ []) a ≡ true) (sym (text_is point (column b 1) parts.0))
    (sym (count_is priority (column b 2) parts.1))
    (passes_place db ours point priority a ha ∙ is_a))

pub adds : (point : List ℕ) (priority : ℕ) (value : ℤ) (old new : State) (result : Result ℕ Error) → IsInside old
    → ExecutesInside 0 add_text (Text point ∷ Int (pos priority) ∷ Int value ∷ []) old new result
    → OnOk result (Changes (On place_slot (Adds (of_place point priority) (Text point ∷ Int (pos priority) ∷ Int value ∷ []))) old new)
adds point priority value old new result inside h =
    adds_alone place_slot (of_place point priority) (Text point ∷ Int (pos priority) ∷ Int value ∷ []) old new result
    (λ id. rw ((bytes_eq-Decides point point).1 refl, (Decides-eqb priority priority).1 refl) refl)
    (λ it a b ha hb is_a is_b. one_place new.now it.ours point priority a b ha hb is_a is_b)
    (gains place_slot is_place add_text add_runs.plain (codes "place") place_table.columns place_table.checks
    (lit Null ∷ col 0 0 ∷ col 0 1 ∷ col 0 2 ∷ []) 4 place_tree refl add_runs.is
    old new (Text point ∷ Int (pos priority) ∷ Int value ∷ []) (Text point ∷ Int (pos priority) ∷ Int value ∷ []) result
    (rw (cast_null, cast_int (pos priority), cast_int value) refl) inside h)

-- an UPDATE of the value, whatever parameters it has besides
aims : (point : List ℕ) (priority : ℕ) (value : ℤ) (more : Row) (old : State) → IsInside old
    → Aims place_slot (of_place point priority) cells_set (Text point ∷ Int (pos priority) ∷ Int value ∷ more)
    (Text point ∷ Int (pos priority) ∷ Int value ∷ []) (old.now.trees place_tree)
aims point priority value more old inside = record {
  by_key = λ a b same. ap (λ l. is_text point (column l 0) && is_count priority (column l 1)) same;
  one = λ a b ha hb is_a is_b. one_place old.now inside.ours point priority a b ha hb is_a is_b;
  made = λ row h is.
      let parts = and_parts _ _ is in
      let number = int_is (rowid row) (inside.ours.rows.place.numbered row h) in
      rw (
        text_is point (column row 1) parts.0,
        count_is priority (column row 2) parts.1,
        cast_int (pos priority),
        cast_int value,
        number,
        cast_int (id_in (rowid row)),
      ) refl;
}

pub sets : (point : List ℕ) (priority : ℕ) (value : ℤ) (old new : State) (result : Result ℕ Error) → IsInside old
    → ExecutesInside 0 set_text (Text point ∷ Int (pos priority) ∷ Int value ∷ []) old new result
    → IfOk result (λ count. Changes (On place_slot
    (Rewrites (of_place point priority) (Text point ∷ Int (pos priority) ∷ Int value ∷ []) count)) old new)
sets point priority value old new result inside h =
    let cells = Text point ∷ Int (pos priority) ∷ Int value ∷ [] in
    rewrites place_slot is_place set_text set_runs.plain (given 1 0 ∷ given 2 1 ∷ []) cells_set set_runs.is (of_place point priority)
    old new cells cells result (aims point priority value [] old inside) inside h
    (λ row h. passes_place old.now inside.ours point priority row h)

-- by the number of the row too
passes_at : (db : Database) → IsOurs db → (point : List ℕ) (priority : ℕ) (value number : ℤ) (row : Row) → Has (db.trees place_tree) row
    → passes (given 0 3 ∷ given 1 0 ∷ given 2 1 ∷ []) (Text point ∷ Int (pos priority) ∷ Int value ∷ Int number ∷ []) row
    ≡ (has_rowid number row && of_place point priority row)
passes_at db ours point priority value number row h =
    let cells = place_cells db ours row h in
    rw (
      equal_rowid number row (ours.rows.place.numbered row h),
      equal_text point (column row 1) cells.0.of cells.0.filled,
      equal_count priority (column row 2) cells.1.of cells.1.filled,
      and_true,
    ) refl

pub sets_at : (point : List ℕ) (priority : ℕ) (value number : ℤ) (old new : State) (result : Result ℕ Error) → IsInside old
    → ExecutesInside 0 set_at_text (Text point ∷ Int (pos priority) ∷ Int value ∷ Int number ∷ []) old new result
    → IfOk result (λ count. Changes (On place_slot
    (RewritesAt number (of_place point priority) (Text point ∷ Int (pos priority) ∷ Int value ∷ []) count)) old new)
sets_at point priority value number old new result inside h =
    rewrites_at place_slot is_place set_at_text set_at_runs.plain (given 0 3 ∷ given 1 0 ∷ given 2 1 ∷ []) cells_set set_at_runs.is
    (of_place point priority) old new (Text point ∷ Int (pos priority) ∷ Int value ∷ Int number ∷ [])
    (Text point ∷ Int (pos priority) ∷ Int value ∷ []) result (aims point priority value (Int number ∷ []) old inside) inside h number
    (λ row h. passes_at old.now inside.ours point priority value number row h)

-- the rows between two numbers
pub sets_between : (first last value : ℤ) (old new : State) (result : Result ℕ Error) → IsInside old
    → ExecutesInside 0 set_between_text (Int first ∷ Int last ∷ Int value ∷ []) old new result
    → OnOk result (Changes (On place_slot (Remakes (is_between first last)
    (λ row. rowid row ∷ column row 1 ∷ column row 2 ∷ Int value ∷ []))) old new)
sets_between first last value old new result inside h =
    remakes place_slot is_place set_between_text set_between_runs.plain between cells_set_between set_between_runs.is (is_between first last)
    (λ row. rowid row ∷ column row 1 ∷ column row 2 ∷ Int value ∷ []) (Int first ∷ Int last ∷ Int value ∷ []) old new inside
    (λ row h. passes_between first last (Int value ∷ []) row (inside.ours.rows.place.numbered row h))
    (λ a b ha hb tied. tied_between first last a b tied)
    (λ row h.
    let cells = place_cells old.now inside.ours row h in
    let point = text_cell (column row 1) cells.0.of cells.0.filled in
    let priority = int_cell (column row 2) cells.1.of cells.1.filled in
    let number = int_is (rowid row) (inside.ours.rows.place.numbered row h) in
    rw (point.1, priority.1, cast_int priority.0, cast_int value, number, cast_int (id_in (rowid row))) refl)
    (λ row. refl) result h

-- the queries

pub keys_found : {V : Type 0} (first last : ℤ) (old new : State) (items : V → List Row) (r : Result V Error) → IsInside old
    → IfOk r (λ v. ShowsInside keys_between_text (Int first ∷ Int last ∷ []) old new (items v))
    → IfOk r (λ v. Changes (Stays (λ kept. Finds (is_between first last) (λ row. column row 1 ∷ column row 2 ∷ []) kept.place (items v))) old new)
keys_found first last old new items r inside shown =
    keys_shown place_slot is_place keys_between_text (col 1 1 ∷ col 1 2 ∷ []) (codes "point" ∷ codes "priority" ∷ []) keys_between_runs
    first last old new items r inside shown

passes_point : (db : Database) → IsOurs db → (point : List ℕ) (row : Row) → Has (db.trees place_tree) row
    → passes (given 1 0 ∷ []) (Text point ∷ []) row ≡ is_text point (column row 1)
passes_point db ours point row h =
    let cells = place_cells db ours row h in
    rw (equal_text point (column row 1) cells.0.of cells.0.filled, and_true) refl

pub of_point_shown : {V : Type 0} (items : V → List Row) (point : List ℕ) (old new : State) (r : Result V Error) → IsOurs old.now
    → IfOk r (λ v. Shown of_point_text (Text point ∷ []) old new (items v))
    → IfOk r (λ v. Finds (λ row. is_text point (column row 1)) (λ row. column row 2 ∷ column row 3 ∷ column row 0 ∷ [])
    (old.now.trees place_tree) (items v))
of_point_shown items point old new (Err e) ours shown = tt
of_point_shown items point old new (Ok v) ours shown =
    finds_same (passes (given 1 0 ∷ []) (Text point ∷ [])) (λ row. is_text point (column row 1))
    (λ row. column row 2 ∷ column row 3 ∷ column row 0 ∷ []) (old.now.trees place_tree) (items v) (λ row h. passes_point old.now ours point row h)
    (finds of_point_text of_point_runs.plain of_point_runs.unlisted place_tree (given 1 0 ∷ []) (col 1 2 ∷ col 1 3 ∷ col 1 0 ∷ [])
    (codes "priority" ∷ codes "value" ∷ codes "rowid" ∷ []) of_point_runs.is old new (Text point ∷ []) (items v) ours.schema_is shown)
