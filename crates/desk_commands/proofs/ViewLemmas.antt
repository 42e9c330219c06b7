-- The rows from a number on are the one that stands there, if there is one, and the run behind it.
use Rattle.std.proofs.Common.{◌≡◌, ℕ, zero, suc, ◌+◌, ◌-◌, ◌≤◌, List, [], ◌∷◌, Option, Some, None, refl, slice_get, sym, ap, subst, ◌∙◌, arith}
use Rattle.std.specs.List.{remove}
use Rattle.points.specs.declared.command_row.CommandRow.{CommandRow}
use Rattle.points.specs.declared.numbered_row.NumberedRow.{NumberedRow}
use Rattle.points.specs.Run.{IsRun, Rows, row_before, rows_between, rows_from}

pub head_of : (rows : List NumberedRow) (found : NumberedRow) → Some found ≡ slice_get rows 0 → rows ≡ found ∷ remove rows 0
head_of [] found is = absurd cc
head_of (first ∷ rest) found is = let same : found ≡ first = cc in ap (λ row. row ∷ rest) (sym same)

abbrev number_in : List NumberedRow → ℕ
number_in [] = 0
number_in (row ∷ rows) = row.number

abbrev row_in : List NumberedRow → Option CommandRow
row_in [] = None
row_in (row ∷ rows) = Some row.row

abbrev rest_in : List NumberedRow → List NumberedRow
rest_in [] = []
rest_in (row ∷ rows) = rows

-- the first of the rows from a number on stands there or past it
first_past : (count : ℕ) (all : Rows) (from : ℕ) (first : NumberedRow) (rest : List NumberedRow) → first ∷ rest ≡ rows_from count all from
    → from ≤ first.number
first_past zero all from first rest is = absurd cc
first_past (suc count) all from first rest is =
    at (all from) (λ later. let past = first_past count all (from + 1) first rest later in omega (arith, past)) is
  where
    at : (row : Option CommandRow) → (first ∷ rest ≡ rows_from count all (from + 1) → from ≤ first.number)
        → first ∷ rest ≡ row_before from row (rows_from count all (from + 1)) → from ≤ first.number
    at None further later = further later
    at (Some row) further here = let same : first.number ≡ from = ap number_in here in omega (arith, same)

module _ (all : Rows) (number : ℕ) where
  -- the rows are those behind, after the one at the number
  cut : (rows : List NumberedRow) (run : IsRun all number (number + 1) rows)
      → rows ≡ row_before number (all number) (rows_between all (number + 1) run.end)
  cut rows run =
      let reaches = run.reaches in
      let one_more : run.end - number ≡ suc (run.end - (number + 1)) = omega (arith, reaches) in
      run.is_between ∙ ap (λ count. rows_from count all number) one_more

  behind : (rows : List NumberedRow) (run : IsRun all number (number + 1) rows)
      → IsRun all (number + 1) (number + 1) (rows_between all (number + 1) run.end)
  behind rows run = record { end = run.end; reaches = run.reaches; unbroken = run.unbroken; gap = run.gap; is_between = refl }

  pub one_stands : (first : NumberedRow) (rest : List NumberedRow) → first.number ≡ number → IsRun all number (number + 1) (first ∷ rest)
      → (Some first.row ≡ all number) × IsRun all (number + 1) (number + 1) rest
  one_stands first rest same run = at (all number) refl (cut (first ∷ rest) run)
    where
      at : (row : Option CommandRow) → all number ≡ row → first ∷ rest ≡ row_before number row (rows_between all (number + 1) run.end)
          → (Some first.row ≡ all number) × IsRun all (number + 1) (number + 1) rest
      at None none later =
          absurd (let past = first_past (run.end - (number + 1)) all (number + 1) first rest later in omega (arith, past, same))
      at (Some row) some here =
          let it : Some first.row ≡ Some row = ap row_in here in
          let others : rest ≡ rows_between all (number + 1) run.end = ap rest_in here in
          (it ∙ sym some, subst (IsRun all (number + 1) (number + 1)) (sym others) (behind (first ∷ rest) run))
