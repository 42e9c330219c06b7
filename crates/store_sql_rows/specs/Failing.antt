-- Why a call of the database fails.
use Rattle.std.specs.Prelude.{◌≡◌, ◌⊎◌, ℕ, nat_le, List, [], length, true, false, IsSome, Option, Result, Ok, Err}
use Rattle.sqlite_disk.specs.Disk.{MoreFaults}
use Rattle.sqlite_value.specs.Order.{Row}
use Rattle.sqlite_trees.specs.Tree.{Trees}
use Rattle.sqlite_resolve.specs.declared.compiled.Compiled.{Compiled}
use Rattle.sqlite_resolve.specs.declared.error.CompileError.{CompileError}
use Rattle.sqlite.specs.declared.error.Error.{Error}
use Rattle.sqlite.specs.declared.error.Error.TheVariants.{SqliteFailure}
use Rattle.sqlite.specs.declared.error.ErrorCode.TheVariants as code
use Rattle.sqlite.specs.Effect.{RefusesToRead}
use Rattle.sqlite.specs.Given.{IsPlain}
use Rattle.sqlite.specs.Listing.{reads_listing, understood}
use Rattle.sqlite.specs.State.{State}
use Rattle.store_sql_rows.specs.Schema.{desk_schema}

-- the disk failed during the call, or the connection was shut before, or its caller had set a limit of steps
abbrev pub IsHindered : State → State → Type 0
IsHindered old new = MoreFaults old.faults new.faults ⊎ ((old.is_open ≡ false) ⊎ IsSome old.step_limit)

-- memory was refused, or the call was hindered
pub record FailsFor (old new : State) (error : Error) : Type 0 where
  pub cause : (error ≡ SqliteFailure code.OutOfMemory) ⊎ IsHindered old new

-- the text is one statement, which has so many parameters and does not ask the time
abbrev pub IsWhole : List ℕ → ℕ → Result Compiled CompileError → Type 0
IsWhole sql count (Ok c) = (nat_le (length sql) c.tail ≡ true) × (count ≡ length c.names) × (c.formats ≡ [])
IsWhole sql count (Err e) = ⊥

-- over the six tables only a limit of steps stops the query
abbrev pub NeverRefuses : Row → Result Compiled CompileError → Type 0
NeverRefuses params (Ok c) =
    (limit : Option ℕ) (trees : Trees) (e : Error)
    → RefusesToRead limit c.command (record { schema = desk_schema; trees = trees }) params e → IsSome limit
NeverRefuses params (Err e) = ⊥

-- the text is a query of the six tables that is never refused with these parameters
pub record IsSure (sql : List ℕ) (params : Row) : Type 0 where
  pub plain : IsPlain (understood desk_schema sql)
  pub unlisted : reads_listing desk_schema sql ≡ false
  pub whole : IsWhole sql (length params) (understood desk_schema sql)
  pub answered : NeverRefuses params (understood desk_schema sql)
