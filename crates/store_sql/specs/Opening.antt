-- How a database is made or taken, and how it stands then.
use Rattle.std.specs.Prelude.{◌≡◌, ◌↔◌, ◌⊎◌, ℕ, ◌+◌, ◌-◌, nat_lt, if◌then◌else◌, ℤ, pos, Bool, true, false, IsTrue, List, [], ◌∷◌, Option, Some, None, Result, Ok, Err, ⊤}
use Rattle.sqlite_trees.specs.Tree.{Trees}
use Rattle.sqlite_value.specs.Order.{Row, column}
use Rattle.sqlite.specs.State.{State}
use Rattle.store.specs.declared.change.RowsBelow.{RowsBelow}
use Rattle.store.specs.Change.{with_each}
use Rattle.store.specs.Standing.{sound}
use Rattle.store.specs.Tables.{Tables, no_tables}
use Rattle.points.specs.Texts.{Text}
use Rattle.store_sql.specs.Naming.{NamesStand}
use Rattle.store_sql_rows.specs.Cells.{number_in}
use Rattle.store_sql_rows.specs.Failing.{FailsFor}
use Rattle.store_sql_rows.specs.declared.read_fault.ReadFault.{ReadFault}
use Rattle.store_sql_rows.specs.declared.read_fault.ReadFault.TheVariants as read
use Rattle.store_sql_rows.specs.Schema.{desk_schema, desk_tree, schema_0}
use Rattle.store_sql_rows.specs.Ours.{AreOurs, IsOurs, Makes, content_of, kept_in}
use Rattle.store_sql_rows.specs.Steps.{Turns, rows_dropped}
use Rattle.store_sql_rows.specs.Stored.{Kept, tables_in}
use Rattle.store_sql.specs.Fitting.{IsFitting}
use Rattle.store_sql.specs.declared.refusal.Refusal.{Refusal}
use Rattle.store_sql.specs.declared.refusal.Refusal.TheVariants.{BadRow, NotOurs, Sql}

-- a fault of a read as one of an opening
abbrev pub refusal_of : ReadFault → Refusal
refusal_of (read.Sql error) = Sql error
refusal_of read.BadRow = BadRow

-- a fault of the read of the version as one of an opening: a version that is no number is none that is known
abbrev pub as_version : Result ℤ ReadFault → Result ℤ Refusal
as_version (Ok version) = Ok version
as_version (Err (read.Sql error)) = Err (Sql error)
as_version (Err read.BadRow) = Err NotOurs

-- the version that a row of `desk` tells
abbrev pub version_in : List Row → Option ℤ
version_in [] = None
version_in (row ∷ rows) = number_in (column row 2)

abbrev pub version_of : Trees → Option ℤ
version_of trees = version_in (trees desk_tree)

-- a connection outside a transaction, over the six tables
pub record Stands (s : State) : Type 0 where
  pub is_open : IsTrue s.is_open
  pub ours : IsOurs s.now
  pub same : s.now ≡ s.committed

-- the six tables were made, and are empty
pub record IsBegun (new : State) : Type 0 where
  pub stands : Stands new
  pub empty : content_of new.committed.trees ≡ sound no_tables
  pub version : version_of new.committed.trees ≡ Some (pos 2)

-- tables of this version are taken as they are
pub record IsTaken (old new : State) : Type 0 where
  pub was : version_of old.committed.trees ≡ Some (pos 2)
  pub stands : Stands new
  pub content : content_of new.committed.trees ≡ content_of old.committed.trees
  pub version : version_of new.committed.trees ≡ Some (pos 2)

-- a connection outside a transaction, over an empty schema
pub record IsBare (s : State) : Type 0 where
  pub mode : s.in_transaction ≡ false
  pub schema_is : s.now.schema ≡ schema_0

-- a connection outside a transaction, over the schema of the six tables
pub record IsShaped (s : State) : Type 0 where
  pub mode : s.in_transaction ≡ false
  pub schema_is : s.now.schema ≡ desk_schema

-- while it is open it shows what is committed, and that obeys the schema
pub record IsSettled (s : State) : Type 0 where
  pub same : IsTrue s.is_open → s.now ≡ s.committed
  pub fitting : IsTrue s.is_open → IsFitting s.now

-- what was committed stands and was looked at: whether its rows are as a store writes them
pub record IsJudged (own : Bool) (old new : State) : Type 0 where
  pub was_open : IsTrue old.is_open
  pub is_open : IsTrue new.is_open
  pub now : new.now ≡ old.now
  pub committed : new.committed ≡ old.committed
  pub reported : IsTrue own ↔ AreOurs (kept_in old.now.trees)

-- what is committed is a database of the six tables, whose row of `desk` tells this version
pub record IsFound (reported : ℤ) (old new : State) : Type 0 where
  pub stands : Stands new
  pub was_open : IsTrue old.is_open
  pub now : new.now ≡ old.now
  pub committed : new.committed ≡ old.committed
  pub version : version_of new.committed.trees ≡ Some reported

-- ---- the first version

-- the tables without the rows of each panel that are more than 1,000 below its next number
abbrev pub without_early_rows : Tables → Tables
without_early_rows tables =
    record tables { row = λ panel number. if nat_lt (number + 1_000) (tables.next panel) then None else tables.row panel number }

-- tables of the first version are those of the second, without their early rows
pub record IsRaised (old new : Trees) : Type 0 where
  pub was : version_of old ≡ Some (pos 1)
  pub makes : Makes without_early_rows (kept_in old) (kept_in new)
  pub version : version_of new ≡ Some (pos 2)

-- the tables of the first version are taken as those of the second; each of their names and next numbers could stand
pub record IsMigrated (old new : State) : Type 0 where
  pub stands : Stands new
  pub raised : IsRaised old.committed.trees new.committed.trees
  pub stood : NamesStand (kept_in old.committed.trees)

-- a database of the six tables, of the first version
pub record IsFirst (s : State) : Type 0 where
  pub stands : Stands s
  pub version : version_of s.committed.trees ≡ Some (pos 1)

-- ---- what is refused

-- a database of the six tables, of a version that is known
pub record IsKnown (s : State) : Type 0 where
  pub mode : s.in_transaction ≡ false
  pub stands : Stands s
  pub version : (version_of s.committed.trees ≡ Some (pos 1)) ⊎ (version_of s.committed.trees ≡ Some (pos 2))

-- the database refused or failed
abbrev pub is_sql : Refusal → Bool
is_sql (Sql error) = true
is_sql NotOurs = false
is_sql BadRow = false

-- where it refused or failed it had a cause
abbrev pub IsCaused : State → State → Refusal → Type 0
IsCaused old new (Sql error) = FailsFor old new error
IsCaused old new NotOurs = ⊤
IsCaused old new BadRow = ⊤

-- it refused or failed, or a row cannot stand
abbrev pub IsFaultOf : State → Refusal → Type 0
IsFaultOf s fault = IsTrue (is_sql fault) ⊎ ((fault ≡ BadRow) × ((content_of s.committed.trees).is_sound ≡ false))

-- ---- its steps

-- of a panel, the rows that are more than 1,000 below its next number
abbrev pub early_rows : (Text → ℕ) → Text → RowsBelow
early_rows next panel = record { panel = panel; number = next panel - 1_000 }

-- in a transaction the row of `desk` tells version 2, and the tables are as they were
pub record SetsVersion (old new : State) : Type 0 where
  pub turns : Turns (λ tables. tables) old new
  pub version : version_of new.now.trees ≡ Some (pos 2)

-- in a transaction the rows are dropped, and the row of `desk` tells version 2
pub record Raises (dropped : List RowsBelow) (old new : State) : Type 0 where
  pub turns : Turns (with_each rows_dropped dropped) old new
  pub version : version_of new.now.trees ≡ Some (pos 2)

-- trees without the rows, whose row of `desk` tells version 2
pub record IsChangedBy (dropped : List RowsBelow) (old new : Trees) : Type 0 where
  pub makes : Makes (with_each rows_dropped dropped) (kept_in old) (kept_in new)
  pub version : version_of new ≡ Some (pos 2)

-- the drop and the version are committed
pub record IsWritten (dropped : List RowsBelow) (old new : State) : Type 0 where
  pub stands : Stands new
  pub changed : IsChangedBy dropped old.now.trees new.now.trees

-- the early rows are dropped, and nothing else is changed
pub record DropsEarly (tables : Tables) (dropped : List RowsBelow) : Type 0 where
  pub makes : with_each rows_dropped dropped tables ≡ without_early_rows tables

-- so it is, and each name and next number in the tables can stand
abbrev pub IsReadToDrop : Kept → List RowsBelow → Type 0
IsReadToDrop kept dropped = DropsEarly (tables_in kept) dropped × NamesStand kept
