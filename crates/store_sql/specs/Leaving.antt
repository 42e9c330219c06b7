-- What a read of the tables leaves.
use Rattle.std.specs.Prelude.{◌≡◌, ◌⊎◌, List, ◌∷◌, Option, Some, None, Bool, true, false, Result, Err, IfOk, IfSome, ⊤}
use Rattle.std.specs.Bool.{IsTrue}
use Rattle.std.specs.Result.{result_err}
use Rattle.sqlite_value.specs.Order.{Row}
use Rattle.sqlite.specs.State.{HasCleanDisk, State, Survives}
use Rattle.sqlite.specs.declared.error.Error.TheVariants.{SqliteFailure}
use Rattle.sqlite.specs.declared.error.ErrorCode.TheVariants.{OutOfMemory}
use Rattle.store_sql_rows.specs.Failing.{FailsFor}
use Rattle.store_sql_rows.specs.Looking.{Rests}
use Rattle.store_sql_rows.specs.Ours.{IsOurs, kept_in}
use Rattle.store_sql_rows.specs.Stored.{Kept}
use Rattle.store_sql_rows.specs.declared.read_fault.ReadFault.{ReadFault}
use Rattle.store_sql_rows.specs.declared.read_fault.ReadFault.TheVariants.{Sql, BadRow}

-- the database refused or failed
abbrev pub is_sql : Option ReadFault → Bool
is_sql None = false
is_sql (Some (Sql e)) = true
is_sql (Some BadRow) = false

-- memory was refused
abbrev pub out_of_memory : ReadFault
out_of_memory = Sql (SqliteFailure OutOfMemory)

-- a row cannot stand, or memory was refused: the database did not fail
abbrev pub IsOwnFault : ReadFault → Type 0
IsOwnFault fault = (fault ≡ BadRow) ⊎ (fault ≡ out_of_memory)

-- a read failed for a cause, or a row cannot stand
abbrev pub FailsToRead : State → State → ReadFault → Type 0
FailsToRead old new (Sql error) = FailsFor old new error
FailsToRead old new BadRow = ⊤

-- a connection sees what it saw
pub record Sees (old new : State) : Type 0 where
  pub now : new.now ≡ old.now
  pub committed : new.committed ≡ old.committed
  pub is_open : new.is_open ≡ old.is_open

-- nothing is changed; after a refusal of the database, which has its cause, an open connection sees what it saw
pub record Asks (fault : Option ReadFault) (old new : State) : Type 0 where
  pub rests : Rests old new
  pub same : IsTrue (is_sql fault) ⊎ Sees old new
  pub cause : IfSome fault (FailsToRead old new)

-- A read of the tables: its answer is what they hold, its own fault tells of a row that cannot stand, and nothing
-- is changed.
pub record Answers {A : Type 0} (Holds : Kept → A → Type 0) (Broken : Kept → Type 0) (old new : State) (result : Result A ReadFault) : Type 0 where
  pub mode : old.in_transaction ≡ false → new.in_transaction ≡ false
  pub asks : HasCleanDisk new → IsOurs old.now → Asks (result_err result) old new
  pub value : HasCleanDisk new → IsOurs old.now → IfOk result (Holds (kept_in old.now.trees))
  pub bad : HasCleanDisk new → IsOurs old.now → result ≡ Err BadRow → Broken (kept_in old.now.trees)
  pub survives : Survives old new (λ _. IsOurs old.now → ⊥)

-- some reads were made, each was answered, and this is known of what the tables hold
pub record HasRead (Known : Kept → Type 0) (old new : State) : Type 0 where
  pub mode : old.in_transaction ≡ false → new.in_transaction ≡ false
  pub sees : HasCleanDisk new → IsOurs old.now → Sees old new
  pub known : HasCleanDisk new → IsOurs old.now → Known (kept_in old.now.trees)
  pub survives : Survives old new (λ _. IsOurs old.now → ⊥)

-- there are two rows or more
pub record AreSeveral (rows : List Row) : Type 0 where
  pub first : Row
  pub second : Row
  pub more : List Row
  pub is : rows ≡ first ∷ second ∷ more
