-- What a refusal of the database is reported as.
use Rattle.std.specs.Prelude.{◌≡◌, ◌⊎◌, true, Result, Ok, Err}
use Rattle.sqlite_trees.specs.declared.store.Store.{Ghosts}
use Rattle.sqlite.specs.Held.{state}
use Rattle.sqlite.specs.State.{HasCleanDisk, IsUnchanged}
use Rattle.store.specs.declared.fault.StoreFault.{StoreFault}
use Rattle.store.specs.declared.fault.StoreFault.TheVariants.{BadRow, Failed, NoMemory}
use Rattle.store.specs.Standing.{HasRisen}
use Rattle.store_sql_rows.specs.declared.read_fault.ReadFault.{ReadFault}
use Rattle.store_sql_rows.specs.declared.read_fault.ReadFault.TheVariants as read
use Rattle.store_sql.specs.declared.session.Session.{Session}

-- the failure is counted, and shuts the store
pub record IsShutBy {S : Type 0} (old new : Session S) : Type 0 where
  pub shut : new.is_shut ≡ true
  pub risen : HasRisen old.failures new.failures

-- S1: the connection goes on as it was
pub record GoesOn {S : Type 0} (g : Ghosts S) (old new : Session S) : Type 0 where
  pub unchanged : HasCleanDisk (state g new.connection) → IsUnchanged (state g old.connection) (state g new.connection)
  pub failures_are : new.failures ≡ old.failures
  pub shut_is : new.is_shut ≡ old.is_shut

module _ {S : Type 0} (g : Ghosts S) (old new : Session S) where
  -- S1 where the connection goes on, else S2
  abbrev pub IsRefusal : StoreFault → Type 0
  IsRefusal reported = ((reported ≡ NoMemory) × GoesOn g old new) ⊎ ((reported ≡ Failed) × IsShutBy old new)

  -- how a fault of a read is reported
  abbrev pub IsReportedAs : ReadFault → StoreFault → Type 0
  IsReportedAs read.BadRow reported = (reported ≡ BadRow) × (new ≡ old)
  IsReportedAs (read.Sql e) reported = IsRefusal reported

  -- how the answer of a read is reported
  abbrev pub IsReported : {A : Type 0} → Result A ReadFault → Result A StoreFault → Type 0
  IsReported (Ok value) reported = (reported ≡ Ok value) × (new ≡ old)
  IsReported (Err fault) reported = (it : StoreFault) × (reported ≡ Err it) × IsReportedAs fault it
