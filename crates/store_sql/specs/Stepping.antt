-- The next number or row of a panel from one on.
use Rattle.std.specs.Prelude.{◌≡◌, ◌≤◌, ◌<◌, ◌+◌, ◌⊎◌, ℕ, List, [], Option, Some, None, IsSome, filter}
use Rattle.points.specs.declared.numbered_row.TheConstants.{LAST_NUMBER}
use Rattle.points.specs.declared.numbered_row.NumberedRow.{NumberedRow}
use Rattle.points.specs.Run.{Rows, rows_between}
use Rattle.store_sql_rows.specs.Broken.{cannot_stand_in}
use Rattle.store_sql_rows.specs.Rows.{of_command}
use Rattle.store_sql_rows.specs.Stored.{Kept}
use Rattle.store.specs.Asked.{IsBrokenRow}
use Rattle.store.specs.Change.{IsNumber}

-- no row stands from one number on and below another
abbrev pub AreNone : Rows → ℕ → ℕ → Type 0
AreNone rows from end = (n : ℕ) → from ≤ n → n < end → rows n ≡ None

-- nothing is kept under a number of a panel
abbrev pub IsNoRow : Kept → List ℕ → ℕ → Type 0
IsNoRow kept panel number = filter (of_command panel number) kept.command ≡ []

-- a number under which something is kept, and nothing from another on and below it
pub record IsNumberAt (kept : Kept) (panel : List ℕ) (from number : ℕ) : Type 0 where
  pub is : IsNumber number
  pub after : from ≤ number
  pub between : (n : ℕ) → from ≤ n → n < number → IsNumber n → IsNoRow kept panel n
  pub here : IsNoRow kept panel number → ⊥

-- the next number of a panel from one on
abbrev pub IsNextNumber : Kept → List ℕ → ℕ → Option ℕ → Type 0
IsNextNumber kept panel from None = (n : ℕ) → from ≤ n → IsNumber n → IsNoRow kept panel n
IsNextNumber kept panel from (Some number) = IsNumberAt kept panel from number

-- a number that a run up to another asks for next, from one on
abbrev pub IsNear : ℕ → ℕ → ℕ → Type 0
IsNear from upto number = (number ≤ upto) ⊎ (number ≡ from)

-- the next number of a panel in a run, from one on
pub record IsNearAt (kept : Kept) (panel : List ℕ) (from upto number : ℕ) : Type 0 where
  pub at : IsNumberAt kept panel from number
  pub near : IsNear from upto number

abbrev pub IsNearNumber : Kept → List ℕ → ℕ → ℕ → Option ℕ → Type 0
IsNearNumber kept panel from upto None = (n : ℕ) → from ≤ n → IsNear from upto n → IsNumber n → IsNoRow kept panel n
IsNearNumber kept panel from upto (Some number) = IsNearAt kept panel from upto number

-- a row, and none from a number on and below it
pub record IsRowAt (rows : Rows) (from : ℕ) (found : NumberedRow) : Type 0 where
  pub after : from ≤ found.number
  pub between : AreNone rows from found.number
  pub here : rows found.number ≡ Some found.row
  pub greatest : found.number ≤ LAST_NUMBER

-- A run of rows up to one number and beyond goes on from another with its next row, or it ends: nothing stands
-- from there on, up to and with the greater of the two.
pub record Ends (rows : Rows) (from upto : ℕ) : Type 0 where
  pub below : (n : ℕ) → from ≤ n → n ≤ upto → rows n ≡ None
  pub at : rows from ≡ None

-- a run's next row: it is not past `upto`, or follows without gap
pub record IsNextOf (rows : Rows) (from upto : ℕ) (found : NumberedRow) : Type 0 where
  pub row : IsRowAt rows from found
  pub near : IsNear from upto found.number

abbrev pub GoesOn : Rows → ℕ → ℕ → Option NumberedRow → Type 0
GoesOn rows from upto None = Ends rows from upto
GoesOn rows from upto (Some found) = IsNextOf rows from upto found

-- the rows of a run so far
pub record AreSoFar (rows : Rows) (from upto number : ℕ) (run : List NumberedRow) : Type 0 where
  pub ordered : from ≤ number
  pub are : run ≡ rows_between rows from number
  pub unbroken : (n : ℕ) → upto ≤ n → n < number → IsSome (rows n)

-- a row under a number of a panel cannot stand
abbrev pub IsBroken : Kept → List ℕ → ℕ → Type 0
IsBroken kept panel number = IsBrokenRow (cannot_stand_in kept) panel number

-- each row from a number on and below another can stand
abbrev pub AllStand : Kept → List ℕ → ℕ → ℕ → Type 0
AllStand kept panel from end = (n : ℕ) → from ≤ n → n < end → IsBroken kept panel n → ⊥

-- each row that a run looked at can stand, up to the one that is found
abbrev pub HaveStood : Kept → List ℕ → ℕ → ℕ → Option NumberedRow → Type 0
HaveStood kept panel from upto None = (n : ℕ) → from ≤ n → IsNear from upto n → IsBroken kept panel n → ⊥
HaveStood kept panel from upto (Some found) = AllStand kept panel from (found.number + 1)

-- the next row of a run cannot stand
pub record IsBrokenNext (kept : Kept) (panel : List ℕ) (from upto : ℕ) : Type 0 where
  pub number : ℕ
  pub after : from ≤ number
  pub near : IsNear from upto number
  pub broken : IsBroken kept panel number
