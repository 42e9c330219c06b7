-- A run of rows grows by one row at its end, and there is no other.
use Rattle.std.proofs.Common.{◌≡◌, ℕ, suc, zero, ◌+◌, ◌-◌, ◌≤◌, ◌++◌, true, List, [], Option, Some, None, is_some, refl, sym, ap, ◌∙◌}
use Rattle.std.proofs.Common.{arith, inl, inr}
use Rattle.std.proofs.lemmas.Bool.{both_ways, cases_order}
use Rattle.points.specs.declared.command_row.CommandRow.{CommandRow}
use Rattle.points.specs.declared.numbered_row.NumberedRow.{NumberedRow}
use Rattle.points.specs.Run.{Rows, IsRun, row_before, rows_from, rows_between}

row_before-append : (number : ℕ) (row : Option CommandRow) (rows last : List NumberedRow)
    → row_before number row (rows ++ last) ≡ row_before number row rows ++ last
row_before-append number None rows last = refl
row_before-append number (Some row) rows last = refl

-- the rows at one number more, at the end
pub rows_from-suc : (count : ℕ) (rows : Rows) (number : ℕ)
    → rows_from (suc count) rows number ≡ rows_from count rows number ++ row_before (number + count) (rows (number + count)) []
rows_from-suc zero rows number =
    let here : number ≡ number + 0 = omega arith in
    ap (λ n. row_before n (rows n) []) here
rows_from-suc (suc count) rows number =
    let past : number + 1 + count ≡ number + suc count = omega arith in
    ap (row_before number (rows number)) (rows_from-suc count rows (number + 1))
    ∙ (row_before-append number (rows number) (rows_from count rows (number + 1)) _
    ∙ ap (λ n. rows_from (suc count) rows number ++ row_before n (rows n) []) past)

pub rows_between-next : (rows : Rows) (from end : ℕ) → from ≤ end
    → rows_between rows from (end + 1) ≡ rows_between rows from end ++ row_before end (rows end) []
rows_between-next rows from end ordered =
    let more : end + 1 - from ≡ suc (end - from) = omega arith in
    let there : from + (end - from) ≡ end = omega arith in
    ap (λ count. rows_from count rows from) more
    ∙ (rows_from-suc (end - from) rows from ∙ ap (λ n. rows_between rows from end ++ row_before n (rows n) []) there)

no_gap : (rows : Rows) (number : ℕ) → rows number ≡ None → is_some (rows number) ≡ true → ⊥
no_gap rows number gap here = both_ways (is_some (rows number)) (ap is_some gap) here

pub IsRun-end : (rows : Rows) (from upto : ℕ) (run other : List NumberedRow) (is : IsRun rows from upto run)
    (was : IsRun rows from upto other)
    → is.end ≡ was.end
IsRun-end rows from upto run other is was =
    elim (cases_order is.end was.end) [
      | inl same ↦ same
      | inr apart ↦ elim apart [
        | inl below ↦ absurd (no_gap rows is.end is.gap (was.unbroken is.end is.reaches below))
        | inr above ↦ absurd (no_gap rows was.end was.gap (is.unbroken was.end was.reaches above))
      ]
    ]

pub IsRun-unique : (rows : Rows) (from upto : ℕ) (run other : List NumberedRow) → IsRun rows from upto run → IsRun rows from upto other
    → run ≡ other
IsRun-unique rows from upto run other is was =
    is.is_between ∙ (ap (rows_between rows from) (IsRun-end rows from upto run other is was) ∙ sym was.is_between)
