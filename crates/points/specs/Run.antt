-- The rows of a panel's commands by number, and the runs of them that end at a gap.
use Rattle.std.specs.Prelude.{◌≡◌, ℕ, zero, suc, ◌+◌, ◌-◌, ◌<◌, ◌≤◌, List, [], ◌∷◌, Option, Some, None, IsSome}
use Rattle.points.specs.declared.command_row.CommandRow.{CommandRow}
use Rattle.points.specs.declared.numbered_row.NumberedRow.{NumberedRow}

-- a panel's rows, each under its number
abbrev pub Rows : Type 0
Rows = ℕ → Option CommandRow

-- a row under its number, before others
abbrev pub row_before : ℕ → Option CommandRow → List NumberedRow → List NumberedRow
row_before number None rest = rest
row_before number (Some row) rest = record { number = number; row = row } ∷ rest

-- the rows at `count` numbers from `number` on, in rising order
abbrev pub rows_from : ℕ → Rows → ℕ → List NumberedRow
rows_from zero rows number = []
rows_from (suc count) rows number = row_before number (rows number) (rows_from count rows (number + 1))

-- the rows at the numbers from `from` up to and without `end`, in rising order
abbrev pub rows_between : Rows → ℕ → ℕ → List NumberedRow
rows_between rows from end = rows_from (end - from) rows from

-- A run: the rows at the numbers from `from` up to and without `upto`, then those from `upto` on that follow
-- without gap, in rising order. It ends at the first number, at or past `upto`, that has no row.
pub record IsRun (rows : Rows) (from upto : ℕ) (run : List NumberedRow) : Type 0 where
  pub end : ℕ
  pub reaches : upto ≤ end
  pub unbroken : (number : ℕ) → upto ≤ number → number < end → IsSome (rows number)
  pub gap : rows end ≡ None
  pub is_between : run ≡ rows_between rows from end
