-- What an answer says of a panel's rows, each shown by its number and then its six cells.
use Rattle.std.specs.Prelude.{◌≡◌, ◌≤◌, ℕ, List, [], ◌∷◌, Option, Some, None, IsSome, filter}
use Rattle.std.specs.BTreeMap.{BTreeMap, get}
use Rattle.std.specs.Ordering.{nat_cmp}
use Rattle.points.specs.declared.command_row.CommandRow.{CommandRow}
use Rattle.sqlite_value.specs.Order.{Row, column}
use Rattle.store.specs.Change.{IsNumber}
use Rattle.store_sql_rows.specs.Cells.{is_count}
use Rattle.store_sql_rows.specs.Rows.{command_in}
use Rattle.store_sql_rows.specs.Stored.{Kept, tables_in}
use Rattle.store_sql.specs.Stepping.{IsBroken, IsNoRow}

-- rows by their numbers: under a number without a row nothing, and no command where what stands there cannot stand
abbrev pub Numbered : Type 0
Numbered = BTreeMap ℕ (Option CommandRow)

-- the rows of an answer that show a number
abbrev pub showing : ℕ → List Row → List Row
showing number rows = filter (λ row. is_count number (column row 0)) rows

-- what the rows that show one number say: two of them cannot stand
abbrev pub said_by : List Row → Option (Option CommandRow)
said_by [] = None
said_by (row ∷ []) =
    Some (command_in (column row 1) (column row 2) (column row 3) (column row 4) (column row 5) (column row 6))
said_by (row ∷ other ∷ more) = Some None

-- each number of a command has what the rows that show it say
abbrev pub AreSaid : List Row → Numbered → Type 0
AreSaid rows numbered = (number : ℕ) → IsNumber number → get nat_cmp numbered number ≡ said_by (showing number rows)

-- no other number has anything
abbrev pub HasNumbers : Numbered → Type 0
HasNumbers numbered = (number : ℕ) → IsSome (get nat_cmp numbered number) → IsNumber number

-- What is known under each number of a panel from one on, up to a gap at or past `upto` under which nothing is kept. Of
-- what stands behind the gap nothing is told.
pub record IsListed (kept : Kept) (panel : List ℕ) (from upto gap : ℕ) (numbered : Numbered) : Type 0 where
  pub after : from ≤ gap
  pub reaches : upto ≤ gap
  pub none : (number : ℕ) → from ≤ number → number ≤ gap → IsNumber number → get nat_cmp numbered number ≡ None
      → IsNoRow kept panel number
  pub some : (number : ℕ) (row : CommandRow) → from ≤ number → number ≤ gap → get nat_cmp numbered number ≡ Some (Some row)
      → ((tables_in kept).row panel number ≡ Some row) × (IsBroken kept panel number → ⊥)
  pub broken : (number : ℕ) → from ≤ number → number ≤ gap → get nat_cmp numbered number ≡ Some None → IsBroken kept panel number
  pub beyond : (number : ℕ) → gap ≤ number → get nat_cmp numbered number ≡ None
