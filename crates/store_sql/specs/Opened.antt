-- What an opening finds, and how one that is refused is reported.
use Rattle.std.specs.Prelude.{◌≡◌, ◌⊎◌, false, IsSome, Result, Ok, Err}
use Rattle.sqlite_disk.specs.Disk.{MoreFaults}
use Rattle.sqlite.specs.Held.{Held}
use Rattle.sqlite.specs.State.{State, Survives}
use Rattle.sqlite.specs.declared.error.Error.TheVariants as sql
use Rattle.sqlite.specs.declared.error.ErrorCode.TheVariants as code
use Rattle.store_sql_rows.specs.Creating.{AreFirst}
use Rattle.store_sql.specs.Opening.{IsMigrated, IsRaised, IsTaken}
use Rattle.store_sql_rows.specs.Ours.{content_of}
use Rattle.store_sql.specs.declared.refusal.Refusal.{Refusal}
use Rattle.store_sql.specs.declared.refusal.Refusal.TheVariants as refused
use Rattle.store.specs.declared.open_fault.OpenFault.{OpenFault}
use Rattle.store.specs.declared.open_fault.OpenFault.TheVariants.{BadRow, Failed, NoMemory, UnknownTables}
use Rattle.store_sql.specs.declared.session.Session.{Session}

-- tables of version 2 as they are, those of version 1 without their early rows
abbrev pub IsOpened : State → State → Type 0
IsOpened old new = IsTaken old new ⊎ IsMigrated old new

-- the connection that an opening leaves, in the store or beside the fault
abbrev pub left_by : {S : Type 0} → Result (Session S) (OpenFault × Held S) → Held S
left_by (Ok session) = session.connection
left_by (Err refused) = refused.1

-- a stop leaves what it left before, or the six tables, empty
abbrev pub SurvivesMaking : State → State → Type 0
SurvivesMaking old new = Survives old new (λ trees. AreFirst trees)

-- a stop leaves what it left before, or the tables of version 1 as those of version 2
abbrev pub SurvivesTaking : State → State → Type 0
SurvivesTaking old new = Survives old new (λ trees. IsRaised old.committed.trees trees)

-- the fault is the database's, or a row is kept that cannot stand
abbrev pub IsFaultOver : State → OpenFault → Type 0
IsFaultOver s fault = ((fault ≡ NoMemory) ⊎ (fault ≡ Failed)) ⊎ ((fault ≡ BadRow) × ((content_of s.committed.trees).is_sound ≡ false))

-- the fault is the database's, or the tables are none that are known
abbrev pub IsFaultOfNone : OpenFault → Type 0
IsFaultOfNone fault = ((fault ≡ NoMemory) ⊎ (fault ≡ Failed)) ⊎ (fault ≡ UnknownTables)

-- S1 where memory was refused, S2 where the database failed for another cause
abbrev pub reported_as : Refusal → OpenFault
reported_as (refused.Sql (sql.SqliteFailure code.OutOfMemory)) = NoMemory
reported_as (refused.Sql _) = Failed
reported_as refused.NotOurs = UnknownTables
reported_as refused.BadRow = BadRow

-- S2 has a cause: the disk failed during the call, or the connection was shut before, or its caller had set a limit of steps
abbrev pub HasCause : State → State → OpenFault → Type 0
HasCause old new fault = fault ≡ Failed → MoreFaults old.faults new.faults ⊎ ((old.is_open ≡ false) ⊎ IsSome old.step_limit)
