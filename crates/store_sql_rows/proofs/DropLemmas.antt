-- No row that a table of commands tells stands above the greatest number, so a greater bound drops no more.
use Rattle.std.proofs.Common.{◌≡◌, ℕ, ◌<◌, ◌≤◌, ◌&&◌, ◌==◌, Bool, true, false, cond, List, [], ◌∷◌, Option, Some, None, filter, filter_map, option_map, option_and_then, nat_lt, refl, sym, ap, ◌∙◌, inl, inr, arith}
use Rattle.std.specs.Str.{bytes_eq}
use Rattle.std.proofs.lemmas.Bool.{and_parts, cases_Bool, eqb-true, false_from_ne_true, ltb-true, ltb-false, lt-ltb, ne_eqb}
use Rattle.sqlite_value.specs.Order.{Row, column}
use Rattle.points.specs.declared.command_row.CommandRow.{CommandRow}
use Rattle.store.specs.declared.change.KeptRow.{KeptRow}
use Rattle.store.specs.declared.change.RowsBelow.{RowsBelow}
use Rattle.store.specs.Change.{with_row, without_rows}
use Rattle.store.specs.Tables.{Tables}
use Rattle.store_sql_rows.specs.Steps.{row_put, rows_dropped}
use Rattle.points.specs.Texts.{Text}
use Rattle.store_sql_rows.specs.Cells.{count_in, name_in}
use Rattle.store_sql_rows.specs.Rows.{command_in, command_said}
use Rattle.store_sql_rows.specs.Stored.{Kept, tables_in}
use Rattle.store_sql_rows.proofs.ReadCellLemmas.{count-cell}
use Rattle.store_sql_rows.proofs.FoldLemmas.{with_each-unseen}
use Rattle.store_sql_rows.proofs.StoredRowLemmas.{item-goes}
use Rattle.store_sql_rows.proofs.TableLemmas.{row-at}

-- the rows below one number of a panel are those below the other
abbrev pub drops_the_same : RowsBelow → ℕ → Type 0
drops_the_same item number =
    (kept : Kept) → without_rows (let other : RowsBelow = record { panel = item.panel; number = number } in other)
    (tables_in kept).row ≡ without_rows item (tables_in kept).row

number-made : (name : Option Text) (number : Option ℕ) (kept : Option CommandRow) (item : KeptRow)
    → option_and_then (λ panel. option_and_then (λ n. option_map
    (λ row. let it : KeptRow = record { panel = panel; number = n; row = row } in it) kept) number) name ≡ Some item
    → number ≡ Some item.number
number-made None number kept item is = absurd (let h : ⊥ = cc in h)
number-made (Some panel) None kept item is = absurd (let h : ⊥ = cc in h)
number-made (Some panel) (Some n) None item is = absurd (let h : ⊥ = cc in h)
number-made (Some panel) (Some n) (Some row) item is =
    let same : (let it : KeptRow = record { panel = panel; number = n; row = row } in it) ≡ item = cc in
    ap (λ (it : KeptRow). Some it.number) same

is-low : (row : Row) (item : KeptRow) → command_said row ≡ Some item → item.number ≤ 1_000_000_000_000
is-low row item says =
    (count-cell 1 1_000_000_000_000 (column row 2) item.number
    (number-made (name_in (column row 1)) (count_in 1 1_000_000_000_000 (column row 2))
    (command_in (column row 3) (column row 4) (column row 5) (column row 6) (column row 7) (column row 8)) item says)).greatest-is

none-above : (n : ℕ) → 1_000_000_000_001 ≤ n → (rows : List Row)
    → filter (λ (y : KeptRow). n == y.number) (filter_map command_said rows) ≡ []
none-above n above [] = refl
none-above n above (row ∷ rows) =
    sym (item-goes (λ y. n == y.number) (command_said row) (filter_map command_said rows) []
    (λ y says. let low = is-low row y says in ne_eqb n y.number (λ same. omega arith))
    (sym (none-above n above rows)))

both-false : (b : Bool) → (b && false) ≡ false
both-false true = refl
both-false false = refl

nothing-above : (kept : Kept) (panel : Text) (n : ℕ) → 1_000_000_000_001 ≤ n → (tables_in kept).row panel n ≡ None
nothing-above kept panel n above =
    with_each-unseen with_row (λ t. t panel n) (λ y. n == y.number)
    (λ y t other. row-at panel n y t false (ap (λ c. bytes_eq panel y.panel && c) other ∙ both-false (bytes_eq panel y.panel)))
    (filter_map command_said kept.command) (λ q m. None) (none-above n above kept.command)

both-same : {A : Type 0} (b : Bool) (x : A) → cond b x x ≡ x
both-same true x = refl
both-same false x = refl

-- a bound above each number drops what a greater one drops
pub drops_above : (item : RowsBelow) → 1_000_000_000_001 ≤ item.number → drops_the_same item 1_000_000_000_001
drops_above item greater kept =
    let at = λ (q : Text) (n : ℕ).
    let was = (tables_in kept).row q n in
    let goal : cond (bytes_eq item.panel q && nat_lt n 1_000_000_000_001) None was
    ≡ cond (bytes_eq item.panel q && nat_lt n item.number) None was =
    elim (cases_Bool (nat_lt n 1_000_000_000_001)) [
      | inl low ↦
          let below : n < 1_000_000_000_001 = ltb-true n 1_000_000_000_001 low in
          let same : nat_lt n item.number ≡ true = lt-ltb n item.number (omega arith) in
          ap (λ b. cond (bytes_eq item.panel q && b) None was) (low ∙ sym same)
      | inr high ↦
          let above : 1_000_000_000_001 ≤ n = ltb-false n 1_000_000_000_001 high in
          let none = nothing-above kept q n above in
          ap (cond (bytes_eq item.panel q && nat_lt n 1_000_000_000_001) None) none
          ∙ both-same (bytes_eq item.panel q && nat_lt n 1_000_000_000_001) None
          ∙ sym (ap (cond (bytes_eq item.panel q && nat_lt n item.number) None) none
          ∙ both-same (bytes_eq item.panel q && nat_lt n item.number) None)
    ] in goal in
    λ i. λ q n. at q n i

pub drops_itself : (item : RowsBelow) → drops_the_same item item.number
drops_itself item kept = refl

-- a row that is not below a number is put before or after those below it are dropped
pub put_then_drop : (item : KeptRow) (below : ℕ) → below ≤ item.number → (t : Tables)
    → row_put item (rows_dropped (record { panel = item.panel; number = below }) t)
    ≡ rows_dropped (record { panel = item.panel; number = below }) (row_put item t)
put_then_drop item below low t =
    let lower : RowsBelow = record { panel = item.panel; number = below } in
    let at = λ (q : Text) (n : ℕ).
    let was = t.row q n in
    let here = bytes_eq item.panel q in
    let goal : cond (here && item.number == n) (Some item.row) (cond (here && nat_lt n below) None was)
    ≡ cond (here && nat_lt n below) None (cond (here && item.number == n) (Some item.row) was) =
    elim (cases_Bool (here && item.number == n)) [
      | inl same ↦
          let number : item.number ≡ n = eqb-true item.number n (and_parts here (item.number == n) same).1 in
          let high : nat_lt n below ≡ false = false_from_ne_true (nat_lt n below) (λ is. let lt : n < below = ltb-true n below is in omega (arith, number)) in
          rw (same, high, both-false here) refl
      | inr other ↦ rw other refl
    ] in goal in
    λ i. record t { row = λ q n. at q n i }
