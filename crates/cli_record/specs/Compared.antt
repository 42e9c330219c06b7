-- What a comparison of the tables of a database with those of a record tells, and does to both stores.
use Rattle.std.specs.Prelude.{Option, Some, None, Result, Ok, Err, IfOk, OnOk}
use Rattle.store.specs.Standing.{Reads, Standing}
use Rattle.store.specs.Tables.{Tables}
use Rattle.store.specs.declared.fault.StoreFault.{StoreFault}
use Rattle.cli_record.specs.declared.comparing.CompareFault.{CompareFault}
use Rattle.cli_record.specs.declared.comparing.CompareFault.TheVariants.{Held, NoMemory, Recorded}

-- which fault is one of the tables that are compared with a record
abbrev pub held_fault : {A : Type 0} → Result A CompareFault → Option StoreFault
held_fault (Ok compared) = None
held_fault (Err (Held fault)) = Some fault
held_fault (Err (Recorded fault)) = None
held_fault {A} (Err NoMemory) = None

-- both stores are only read, and what is found is so of their tables
pub record Compares {A : Type 0} (IsSo : Tables → Tables → A → Type 0) (result : Result A CompareFault)
    (old new other_old other_new : Standing) : Type 0 where
  pub reads : Reads (held_fault result) old new
  pub reads_other : OnOk result (Reads None other_old other_new)
  pub found : new.is_honest → other_new.is_honest → IfOk result (IsSo old.content.tables other_old.content.tables)
