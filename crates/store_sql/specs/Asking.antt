-- What a question does, and what it tells.
use Rattle.std.specs.Prelude.{◌≡◌, ◌↔◌, ◌⊎◌, ℕ, Bool, true, false, IsTrue, IfErr, IfOk, OnOk, List, [], Result, Ok}
use Rattle.sqlite_value.specs.Order.{Row}
use Rattle.sqlite_resolve.specs.declared.compiled.Compiled.{Compiled}
use Rattle.sqlite.specs.declared.error.Error.{Error}
use Rattle.sqlite.specs.Effect.{Database, Reads}
use Rattle.sqlite.specs.Listing.{understood}
use Rattle.sqlite.specs.State.{HasCleanDisk, IsUnchanged, State, Survives}
use Rattle.store_sql_rows.specs.Failing.{FailsFor, IsSure}
use Rattle.store_sql_rows.specs.Schema.{desk_schema}
use Rattle.store_sql_rows.specs.Looking.{Rests}
use Rattle.store_sql.specs.Fitting.{IsFitting}

-- Nothing changes, and an answer says so much of the database; a failure has its cause.
pub record Asks (says : Bool → Database → Type 0) (old new : State) (result : Result Bool Error) : Type 0 where
  pub same : HasCleanDisk new → IsFitting old.now → OnOk result (IsUnchanged old new)
  pub rests : HasCleanDisk new → IsFitting old.now → Rests old new
  pub reported : HasCleanDisk new → IsFitting old.now → IfOk result (λ answer. says answer old.now)
  pub survives : Survives old new (λ _. IsFitting old.now → ⊥)
  pub cause : HasCleanDisk new → IsFitting old.now → IfErr result (FailsFor old new)

-- a query on the six tables that does nothing else, and is never refused
abbrev pub IsAskable : List ℕ → Type 0
IsAskable sql = IsSure sql []

-- whether the query has no row
pub record FindsNone (sql : List ℕ) (none : Bool) (db : Database) : Type 0 where
  pub compiled : Compiled
  pub is : understood desk_schema sql ≡ Ok compiled
  pub rows : List Row
  pub read : Reads compiled.command db [] rows
  pub reported : IsTrue none ↔ (rows ≡ [])

-- the second is asked where the first is true
pub record Joins (one other : Bool → Database → Type 0) (both : Bool) (db : Database) : Type 0 where
  pub is : (one true db × other both db) ⊎ (one false db × (both ≡ false))
