-- A list of the rows up to a number, with one more.
use Rattle.std.proofs.Common.{◌≡◌, ℕ, ◌+◌, ◌≤◌, ◌++◌, List, [], ◌∷◌, Some, None, refl, sym, ap, ◌∙◌}
use Rattle.points.specs.declared.command_row.CommandRow.{CommandRow}
use Rattle.points.specs.declared.numbered_row.NumberedRow.{NumberedRow}
use Rattle.points.specs.Run.{Rows, row_before, rows_between}
use Rattle.points.proofs.RunLemmas.{rows_between-next}

pub next-row : (rows : Rows) (from number : ℕ) (row : CommandRow) (so_far now : List NumberedRow) → from ≤ number
    → so_far ≡ rows_between rows from number → rows number ≡ Some row → now ≡ so_far ++ record { number = number; row = row } ∷ []
    → now ≡ rows_between rows from (number + 1)
next-row rows from number row so_far now ordered is here more =
    more ∙ ap (λ list. list ++ record { number = number; row = row } ∷ []) is
    ∙ ap (λ o. rows_between rows from number ++ row_before number o []) (sym here) ∙ sym (rows_between-next rows from number ordered)

nothing_more : (list : List NumberedRow) → list ++ [] ≡ list
nothing_more [] = refl
nothing_more (x ∷ xs) = ap (λ l. x ∷ l) (nothing_more xs)

pub next-none : (rows : Rows) (from number : ℕ) (now : List NumberedRow) → from ≤ number
    → now ≡ rows_between rows from number → rows number ≡ None → now ≡ rows_between rows from (number + 1)
next-none rows from number now ordered is here =
    is ∙ sym (nothing_more (rows_between rows from number))
    ∙ ap (λ o. rows_between rows from number ++ row_before number o []) (sym here) ∙ sym (rows_between-next rows from number ordered)
