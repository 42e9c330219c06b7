-- The statements on the commands.
use Rattle.std.proofs.Common.{◌≡◌, ◌∙◌, inl, inr, ℕ, ℤ, Option, Result, IfOk, Ok, Err, OnOk, pos, Bool, true, false, ◌&&◌, ◌≤◌, ◌<◌, ◌+◌, ◌-◌, ◌++◌, List, [], ◌∷◌, map, filter, append-nil, append_assoc, arith, subst, codes, refl, sym, ap, subst₂}
use Rattle.std.proofs.lemmas.Bool.{and_parts}
use Rattle.std.proofs.lemmas.Bool.Decides.{Decides-eqb}
use Rattle.std.proofs.lemmas.Slice.Eq.{bytes_eq-Decides}
use Rattle.sqlite_value.specs.Keys.{first_key}
use Rattle.sqlite_catalog.specs.Listing.{automatic}
use Rattle.sqlite_trees.specs.Tree.{rowid}
use Rattle.store_sql_rows.proofs.KeyLemmas.{count_is, one_number, text_is}
use Rattle.store_sql_rows.proofs.AddLemmas.{adds_alone}
use Rattle.store_sql_rows.proofs.ExchangeLemmas.{Exchanged, exchanges}
use Rattle.sqlite_rules.specs.Edit.{id_in}
use Rattle.sqlite_rules.proofs.TableLemmas.{int_is}
use Rattle.sqlite_value.specs.declared.value.Value.{Value}
use Rattle.sqlite_value.specs.declared.value.Value.TheVariants.{Int, Null, Text}
use Rattle.sqlite_value.specs.Order.{Row, column}
use Rattle.sqlite_schema.specs.declared.schema.Constraint.TheVariants.{Datatype, NotNull}
use Rattle.sqlite_schema.specs.declared.schema.Kind.TheVariants as kind
use Rattle.sqlite_rules.specs.Lists.{Has}
use Rattle.sqlite_rules.proofs.ListLemmas.{all_has}
use Rattle.sqlite_sql.specs.declared.ops.CompareOp.TheVariants.{Ge, Lt}
use Rattle.sqlite_sql.specs.Term.{Term, lit, col}
use Rattle.sqlite.specs.declared.error.Error.{Error}
use Rattle.sqlite.specs.Effect.{Database}
use Rattle.sqlite.specs.State.{ExecutesInside, Shown, State}
use Rattle.store_sql_rows.specs.Schema.{column_of, command_table, command_tree}
use Rattle.store_sql_rows.specs.Meanings.{compared_with, given, passes}
use Rattle.store_sql_rows.specs.Ours.{Adds, Changes, Exchanges, IsInside, IsOurs, Loses}
use Rattle.store_sql_rows.specs.Slot.{On, command_slot}
use Rattle.store_sql_rows.proofs.CellLemmas.{and_true, below_count, cast_cell, cast_int, cast_null, equal_count, equal_text, from_count}
use Rattle.store_sql_rows.proofs.RestLemmas.{finds, finds_least, finds_same, least_same}
use Rattle.store_sql_rows.specs.Looking.{Finds, FindsLeast, is_from}
use Rattle.store_sql_rows.proofs.SlotLemmas.{gains, is_command, loses}
use Rattle.store_sql_rows.proofs.TypeLemmas.{IsFilled, first_filled, ruled, second_filled}
use Rattle.store_sql_rows.proofs.CommandTexts.{add_runs, add_text, below_runs, below_text, cells_set, clear_runs, clear_text, drop_runs, drop_text, exchange_runs, exchange_text, find_runs, find_text, next_number_runs, next_number_text}
use Rattle.store_sql_rows.specs.Cells.{cell_of, is_below, is_count, is_text}
use Rattle.store_sql_rows.specs.Looking.{FindsRun, IsReadRun, last_shown, number_shown}
use Rattle.store_sql_rows.specs.Meanings.{ordered}
use Rattle.store_sql_rows.proofs.OrderedLemmas.{AreInOrder, IsNumbered, counted, has-before, has-behind, has_permuted, last-from, last-greatest, numbered-cell, rises-behind, rises-front, rises-numbers, start_in_order, whole_in_order}
use Rattle.store_sql_rows.proofs.RowLemmas.{filter_same}
use Rattle.sqlite_rules.proofs.ProbeLemmas.{has_mapped}
use Rattle.sqlite_rules.proofs.ListLemmas.{has_filtered}
use Rattle.std.specs.List.Sorted.{IsPermutation}
use Rattle.store_sql_rows.specs.Rows.{of_command, of_lower_command}

pub command_cells : (db : Database) → IsOurs db → (row : Row) → Has (db.trees command_tree) row
    → IsFilled kind.Text (column row 1) × IsFilled kind.Integer (column row 2)
command_cells db ours row h =
    let typed = all_has _ (db.trees command_tree) row (ruled Datatype db ours).1.1.0 h in
    let present = all_has _ (db.trees command_tree) row (ruled NotNull db ours).1.1.0 h in
    let col1 = column_of (codes "panel") kind.Text true in
    let col2 = column_of (codes "number") kind.Integer true in
    let col3 = column_of (codes "point") kind.Text true in
    let col4 = column_of (codes "priority") kind.Integer true in
    let col5 = column_of (codes "value") kind.Integer false in
    let col6 = column_of (codes "state") kind.Integer true in
    let col7 = column_of (codes "a") kind.Integer false in
    let col8 = column_of (codes "b") kind.Integer false in (
      first_filled command_table (codes "panel") kind.Text (col2 ∷ col3 ∷ col4 ∷ col5 ∷ col6 ∷ col7 ∷ col8 ∷ []) refl refl db.trees
          row typed present,
      second_filled command_table col1 (codes "number") kind.Integer (col3 ∷ col4 ∷ col5 ∷ col6 ∷ col7 ∷ col8 ∷ []) refl refl
          db.trees row typed present,
    )

pub passes_command : (db : Database) → IsOurs db → (panel : List ℕ) (number : ℕ) → (row : Row) → Has (db.trees command_tree) row
    → passes (given 1 0 ∷ given 2 1 ∷ []) (Text panel ∷ Int (pos number) ∷ []) row ≡ of_command panel number row
passes_command db ours panel number row h =
    let cells = command_cells db ours row h in
    rw (
      equal_text panel (column row 1) cells.0.of cells.0.filled,
      equal_count number (column row 2) cells.1.of cells.1.filled,
      and_true,
    ) refl

pub clears : (panel : List ℕ) (number : ℕ) → (old new : State) (result : Result ℕ Error) → IsInside old
    → ExecutesInside 0 clear_text (Text panel ∷ Int (pos number) ∷ []) old new result
    → OnOk result (Changes (On command_slot (Loses (of_command panel number))) old new)
clears panel number old new result inside h =
    loses command_slot is_command clear_text clear_runs.plain (given 1 0 ∷ given 2 1 ∷ []) (of_command panel number) clear_runs.is
    (λ a b same. ap (λ l. is_text panel (column l 0) && is_count number (column l 1)) same) old new
    (Text panel ∷ Int (pos number) ∷ []) result
    (λ row h. passes_command old.now inside.ours panel number row h) inside h

-- no two rows have one number of a panel
one_command : (db : Database) → IsOurs db → (panel : List ℕ) (number : ℕ) (a b : Row) → Has (db.trees command_tree) a
    → Has (db.trees command_tree) b
    → of_command panel number a ≡ true → of_command panel number b ≡ true → rowid a ≡ rowid b
unfolding first_key
one_command db ours panel number a b ha hb is_a is_b =
    let parts = and_parts _ _ is_b in
    one_number (automatic command_table 0 (1 ∷ 2 ∷ []) 4) command_table (1 ∷ 2 ∷ []) db ours (inr (inr (inl refl))) (inr (inl refl))
    refl ours.rows.command a b ha hb
    (subst₂ (λ v w. passes (given 1 0 ∷ given 2 1 ∷ []) (v ∷ w ∷ []) a ≡ true) (sym (text_is panel (column b 1) parts.0))
    (sym (count_is number (column b 2) parts.1))
    (passes_command db ours panel number a ha ∙ is_a))

pub adds : (panel : List ℕ) (number : ℕ) (point : List ℕ) (priority : ℤ) (value : Option ℤ) (state : ℤ) (a : Option ℤ) (b : Option ℤ)
    → (old new : State) (result : Result ℕ Error) → IsInside old
    → ExecutesInside 0 add_text (Text panel ∷ Int (pos number) ∷ Text point ∷ Int priority ∷ cell_of value ∷ Int state ∷ cell_of a
    ∷ cell_of b ∷ []) old new result
    → OnOk result (Changes (On command_slot (Adds (of_command panel number)
    (Text panel ∷ Int (pos number) ∷ Text point ∷ Int priority ∷ cell_of value ∷ Int state ∷ cell_of a ∷ cell_of b ∷ []))) old new)
adds panel number point priority value state a b old new result inside h =
    adds_alone command_slot (of_command panel number)
    (Text panel ∷ Int (pos number) ∷ Text point ∷ Int priority ∷ cell_of value ∷ Int state ∷ cell_of a ∷ cell_of b ∷ []) old new result
    (λ id. rw ((bytes_eq-Decides panel panel).1 refl, (Decides-eqb number number).1 refl) refl)
    (λ it x y hx hy is_x is_y. one_command new.now it.ours panel number x y hx hy is_x is_y)
    (gains command_slot is_command add_text add_runs.plain (codes "command") command_table.columns command_table.checks
    (lit Null ∷ col 0 0 ∷ col 0 1 ∷ col 0 2 ∷ col 0 3 ∷ col 0 4 ∷ col 0 5 ∷ col 0 6 ∷ col 0 7 ∷ []) 9 command_tree refl add_runs.is
    old new (Text panel ∷ Int (pos number) ∷ Text point ∷ Int priority ∷ cell_of value ∷ Int state ∷ cell_of a ∷ cell_of b ∷ [])
    (Text panel ∷ Int (pos number) ∷ Text point ∷ Int priority ∷ cell_of value ∷ Int state ∷ cell_of a ∷ cell_of b ∷ []) result
    (rw (cast_null, cast_int (pos number), cast_int priority, cast_cell value, cast_int state, cast_cell a, cast_cell b) refl) inside h)

passes_lower : (db : Database) → IsOurs db → (panel : List ℕ) (number : ℕ) → (row : Row) → Has (db.trees command_tree) row
    → passes (given 1 0 ∷ compared_with Lt 2 1 ∷ []) (Text panel ∷ Int (pos number) ∷ []) row ≡ of_lower_command panel number row
passes_lower db ours panel number row h =
    let cells = command_cells db ours row h in
    rw (
      equal_text panel (column row 1) cells.0.of cells.0.filled,
      below_count number (column row 2) cells.1.of cells.1.filled,
      and_true,
    ) refl

pub drops : (panel : List ℕ) (number : ℕ) → (old new : State) (result : Result ℕ Error) → IsInside old
    → ExecutesInside 0 drop_text (Text panel ∷ Int (pos number) ∷ []) old new result
    → OnOk result (Changes (On command_slot (Loses (of_lower_command panel number))) old new)
drops panel number old new result inside h =
    loses command_slot is_command drop_text drop_runs.plain (given 1 0 ∷ compared_with Lt 2 1 ∷ []) (of_lower_command panel number) drop_runs.is
    (λ a b same. ap (λ l. is_text panel (column l 0) && is_below number (column l 1)) same) old new
    (Text panel ∷ Int (pos number) ∷ []) result
    (λ row h. passes_lower old.now inside.ours panel number row h) inside h

-- an UPDATE that makes the row under a number of the row below another

passes_below : (db : Database) → IsOurs db → (panel : List ℕ) (below : ℕ) (a b c d e f g : Value) → (row : Row)
    → Has (db.trees command_tree) row
    → passes (given 1 0 ∷ compared_with Lt 2 8 ∷ []) (Text panel ∷ a ∷ b ∷ c ∷ d ∷ e ∷ f ∷ g ∷ Int (pos below) ∷ []) row
    ≡ of_lower_command panel below row
passes_below db ours panel below a b c d e f g row h =
    let cells = command_cells db ours row h in
    rw (
      equal_text panel (column row 1) cells.0.of cells.0.filled,
      below_count below (column row 2) cells.1.of cells.1.filled,
      and_true,
    ) refl

module _ (panel : List ℕ) (below number : ℕ) (point : List ℕ) (priority : ℤ) (value : Option ℤ) (state : ℤ) (a b : Option ℤ) where
  abbrev row_cells : Row
  row_cells =
      Text panel ∷ Int (pos number) ∷ Text point ∷ Int priority ∷ cell_of value ∷ Int state ∷ cell_of a ∷ cell_of b ∷ []

  abbrev exchange_params : Row
  exchange_params =
      Text panel ∷ Int (pos number) ∷ Text point ∷ Int priority ∷ cell_of value ∷ Int state ∷ cell_of a ∷ cell_of b
      ∷ Int (pos below) ∷ []

  row_exchanged : (old : State) → IsInside old
      → Exchanged command_slot (of_lower_command panel below) (of_command panel number) cells_set exchange_params row_cells
      (old.now.trees command_tree)
  row_exchanged old inside = record {
    by_key = λ x y same. ap (λ l. is_text panel (column l 0) && is_below below (column l 1)) same;
    made = λ row h is.
        let parts = and_parts _ _ is in
        let id = int_is (rowid row) (inside.ours.rows.command.numbered row h) in
        rw (
          text_is panel (column row 1) parts.0,
          cast_int (pos number),
          cast_int priority,
          cast_cell value,
          cast_int state,
          cast_cell a,
          cast_cell b,
          id,
          cast_int (id_in (rowid row)),
        ) refl;
    own = λ id. rw ((bytes_eq-Decides panel panel).1 refl, (Decides-eqb number number).1 refl) refl;
    one = λ db ours x y hx hy is_x is_y. one_command db ours panel number x y hx hy is_x is_y;
  }

  pub exchanges_row : (old new : State) (result : Result ℕ Error) → IsInside old
      → ExecutesInside 0 exchange_text exchange_params old new result
      → IfOk result (λ count. Changes (On command_slot
      (Exchanges (of_lower_command panel below) (of_command panel number) row_cells count)) old new)
  exchanges_row old new result inside h =
      exchanges command_slot is_command exchange_text exchange_runs.plain (given 1 0 ∷ compared_with Lt 2 8 ∷ []) cells_set exchange_runs.is
      (of_lower_command panel below) (of_command panel number) old new exchange_params row_cells result
      (λ row there. passes_below old.now inside.ours panel below (Int (pos number)) (Text point) (Int priority) (cell_of value)
      (Int state) (cell_of a) (cell_of b) row there) (row_exchanged old inside) inside h

-- the queries

pub find_shown : {V : Type 0} (items : V → List Row) (panel : List ℕ) (number : ℕ) (old new : State) (r : Result V Error) → IsOurs old.now
    → IfOk r (λ v. Shown find_text (Text panel ∷ Int (pos number) ∷ []) old new (items v))
    → IfOk r (λ v. Finds (of_command panel number)
    (λ row. column row 3 ∷ column row 4 ∷ column row 5 ∷ column row 6 ∷ column row 7 ∷ column row 8 ∷ [])
    (old.now.trees command_tree) (items v))
find_shown items panel number old new (Err e) ours shown = tt
find_shown items panel number old new (Ok v) ours shown =
    finds_same (passes (given 1 0 ∷ given 2 1 ∷ []) (Text panel ∷ Int (pos number) ∷ [])) (of_command panel number)
    (λ row. column row 3 ∷ column row 4 ∷ column row 5 ∷ column row 6 ∷ column row 7 ∷ column row 8 ∷ [])
    (old.now.trees command_tree) (items v) (λ row h. passes_command old.now ours panel number row h)
    (finds find_text find_runs.plain find_runs.unlisted command_tree (given 1 0 ∷ given 2 1 ∷ [])
    (col 1 3 ∷ col 1 4 ∷ col 1 5 ∷ col 1 6 ∷ col 1 7 ∷ col 1 8 ∷ [])
    (codes "point" ∷ codes "priority" ∷ codes "value" ∷ codes "state" ∷ codes "a" ∷ codes "b" ∷ []) find_runs.is old new
    (Text panel ∷ Int (pos number) ∷ []) (items v) ours.schema_is shown)

pub below_shown : {V : Type 0} (items : V → List Row) (panel : List ℕ) (number : ℕ) (old new : State) (r : Result V Error) → IsOurs old.now
    → IfOk r (λ v. Shown below_text (Text panel ∷ Int (pos number) ∷ []) old new (items v))
    → IfOk r (λ v. Finds (of_lower_command panel number) (λ row. column row 2 ∷ []) (old.now.trees command_tree) (items v))
below_shown items panel number old new (Err e) ours shown = tt
below_shown items panel number old new (Ok v) ours shown =
    finds_same (passes (given 1 0 ∷ compared_with Lt 2 1 ∷ []) (Text panel ∷ Int (pos number) ∷ [])) (of_lower_command panel number)
    (λ row. column row 2 ∷ []) (old.now.trees command_tree)
    (items v) (λ row h. passes_lower old.now ours panel number row h)
    (finds below_text below_runs.plain below_runs.unlisted command_tree (given 1 0 ∷ compared_with Lt 2 1 ∷ []) (col 1 2 ∷ [])
    (codes "number" ∷ []) below_runs.is old new
    (Text panel ∷ Int (pos number) ∷ []) (items v) ours.schema_is shown)

passes_next_number : (db : Database) → IsOurs db → (panel : List ℕ) (from : ℕ) → (row : Row) → Has (db.trees command_tree) row
    → passes (given 1 0 ∷ compared_with Ge 2 1 ∷ []) (Text panel ∷ Int (pos from) ∷ []) row
    ≡ (is_text panel (column row 1) && is_from from (column row 2))
passes_next_number db ours panel from row h =
    let cells = command_cells db ours row h in
    rw (equal_text panel (column row 1) cells.0.of cells.0.filled, from_count from (column row 2) cells.1.of cells.1.filled, and_true) refl

pub next_number_shown : {V : Type 0} (items : V → List Row) (panel : List ℕ) (from : ℕ) (old new : State) (r : Result V Error)
    → IsOurs old.now
    → IfOk r (λ v. Shown next_number_text (Text panel ∷ Int (pos from) ∷ []) old new (items v))
    → IfOk r (λ v. FindsLeast (λ row. is_text panel (column row 1) && is_from from (column row 2)) 2
    (old.now.trees command_tree) (items v))
next_number_shown items panel from old new (Err e) ours shown = tt
next_number_shown items panel from old new (Ok v) ours shown =
    least_same (passes (given 1 0 ∷ compared_with Ge 2 1 ∷ []) (Text panel ∷ Int (pos from) ∷ []))
    (λ row. is_text panel (column row 1) && is_from from (column row 2)) 2 (old.now.trees command_tree) (items v)
    (λ row h. passes_next_number old.now ours panel from row h)
    (finds_least next_number_text next_number_runs.plain next_number_runs.unlisted command_tree (given 1 0 ∷ compared_with Ge 2 1 ∷ []) 2
    (codes "number" ∷ []) next_number_runs.is old new (Text panel ∷ Int (pos from) ∷ []) (items v) ours.schema_is shown)

-- ---- a run, read one row at a time

abbrev is_picked : List ℕ → ℕ → Row → Bool
is_picked panel from row = is_text panel (column row 1) && is_from from (column row 2)

abbrev show_run : Row → Row
show_run row = column row 2 ∷ column row 3 ∷ column row 4 ∷ column row 5 ∷ column row 6 ∷ column row 7 ∷ column row 8 ∷ []

abbrev run_terms : List Term
run_terms = given 1 0 ∷ compared_with Ge 2 1 ∷ []

abbrev run_cells : List Term
run_cells = col 1 3 ∷ col 1 4 ∷ col 1 5 ∷ col 1 6 ∷ col 1 7 ∷ col 1 8 ∷ []

abbrev run_names : List (List ℕ)
run_names =
    codes "number" ∷ codes "point" ∷ codes "priority" ∷ codes "value" ∷ codes "state" ∷ codes "a" ∷ codes "b" ∷ []

module _ (db : Database) (ours : IsOurs db) (panel : List ℕ) (from upto : ℕ) (least : 1 ≤ from) where
  abbrev run_params : Row
  run_params = Text panel ∷ Int (pos from) ∷ []

  abbrev InOrder : List Row → Type 0
  InOrder rows = AreInOrder (filter (is_picked panel from) (db.trees command_tree)) show_run rows

  picked_here : (rows : List Row) → AreInOrder (filter (passes run_terms run_params) (db.trees command_tree)) show_run rows → InOrder rows
  picked_here rows are =
      subst (λ l. AreInOrder l show_run rows) (filter_same (passes run_terms run_params) (is_picked panel from) (db.trees command_tree)
      (λ row h. passes_next_number db ours panel from row h)) are

  numbered : (rows : List Row) → InOrder rows → (row : Row) → Has rows row → IsNumbered from row
  numbered rows are row h =
      let origin =
      has_mapped show_run (filter (is_picked panel from) (db.trees command_tree)) row
      (has_permuted (map show_run (filter (is_picked panel from) (db.trees command_tree))) rows row are.shown h) in
      let is = (has_filtered (is_picked panel from) (db.trees command_tree) origin.0 origin.1).1 in
      subst (IsNumbered from) (sym origin.2)
      (numbered-cell from (column origin.0 2) (and_parts (is_text panel (column origin.0 1)) (is_from from (column origin.0 2)) is).1)

  abbrev last : List Row → ℕ
  last run = last_shown (from - 1) run

  whole_run : (run : List Row) → InOrder run → FindsRun (is_picked panel from) show_run from upto (db.trees command_tree) run
  whole_run run are =
      let ahead : from ≤ last run + 1 = last-from from (from - 1) run (omega (arith, least)) (numbered run are) in
      record {
        rest = [];
        shown = subst (λ l. IsPermutation (map show_run (filter (is_picked panel from) (db.trees command_tree))) l) (sym (append-nil run)) are.shown;
        gap = last run + 1 + upto;
        after = omega (arith, ahead);
        reaches = omega arith;
        before = λ row h number is.
            let low = last-greatest from (from - 1) run are.rises (numbered run are) row h in
            let same : number ≡ number_shown row = counted number (column row 0) is in
            omega (arith, low, same);
        behind = λ row h. absurd h;
      }

  cut_run : (run : List Row) (row : Row) (tail : List Row) → InOrder (run ++ (row ∷ tail)) → upto < number_shown row
      → last run + 1 < number_shown row → FindsRun (is_picked panel from) show_run from upto (db.trees command_tree) run
  cut_run run row tail are past apart =
      let all = numbered (run ++ (row ∷ tail)) are in
      let mine = λ (r : Row) (h : Has run r). all r (has-before run (row ∷ tail) r h) in
      let ahead : from ≤ last run + 1 = last-from from (from - 1) run (omega (arith, least)) mine in
      let rises = rises-front (λ r. column r 0) run (row ∷ tail) are.rises in
      let behind = rises-behind (λ r. column r 0) run (row ∷ tail) are.rises in
      record {
        rest = row ∷ tail;
        shown = are.shown;
        gap = number_shown row - 1;
        after = omega (arith, ahead, apart);
        reaches = omega (arith, past);
        before = λ r h number is.
            let low = last-greatest from (from - 1) run rises mine r h in
            let same : number ≡ number_shown r = counted number (column r 0) is in
            omega (arith, low, same, apart);
        behind = λ r h number is.
            let same : number ≡ number_shown r = counted number (column r 0) is in
            elim h [
              | inl here ↦
                  let shown : number_shown r ≡ number_shown row = ap number_shown here in
                  omega (arith, same, shown, past)
              | inr later ↦
                  let more : number_shown row ≤ number_shown r =
                  rises-numbers row r from (all row (has-behind run (row ∷ tail) row (inl refl)))
                  (all r (has-behind run (row ∷ tail) r (inr later))) (behind.0 r later) in
                  omega (arith, same, more, past)
            ];
      }

  pub run_found : (run : List Row) → IsReadRun (ordered command_tree run_terms 2 run_cells run_names) db run_params from upto run
      → FindsRun (is_picked panel from) show_run from upto (db.trees command_tree) run
  run_found run (inl read) =
      whole_run run (picked_here run (whole_in_order command_tree run_terms 2 run_cells db.trees run_params run read.answer))
  run_found run (inr stop) =
      let start =
      start_in_order command_tree run_terms 2 run_cells db.trees run_params (run ++ stop.row ∷ []) stop.begins.1 in
      let are = picked_here ((run ++ stop.row ∷ []) ++ start.0) start.1 in
      cut_run run stop.row start.0 (subst InOrder (append_assoc run (stop.row ∷ []) start.0) are) stop.past stop.apart

  pub run_ok : {V : Type 0} (items : V → List Row) (r : Result V Error)
      → IfOk r (λ v. IsReadRun (ordered command_tree run_terms 2 run_cells run_names) db run_params from upto (items v))
      → IfOk r (λ v. FindsRun (is_picked panel from) show_run from upto (db.trees command_tree) (items v))
  run_ok items (Ok v) read = run_found (items v) read
  run_ok items (Err e) read = tt
