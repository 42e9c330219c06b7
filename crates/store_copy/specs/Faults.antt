-- The fault where nothing was copied, and what that leaves.
use Rattle.std.specs.Prelude.{◌≡◌, Option, Some, None, Result, Ok, Err}
use Rattle.store.specs.declared.change.Change.{Change}
use Rattle.store.specs.declared.fault.StoreFault.{StoreFault}
use Rattle.store.specs.Standing.{Commits, Standing}
use Rattle.store_copy.specs.declared.copying.CopyFault.{CopyFault}
use Rattle.store_copy.specs.declared.copying.CopyFault.TheVariants.{Read, OutOfRange, Written}

-- the fault of the store that is read
abbrev pub fault_read : CopyFault → Option StoreFault
fault_read (Read fault) = Some fault
fault_read OutOfRange = None
fault_read (Written fault) = None

abbrev pub read_fault : {A : Type 0} → Result A CopyFault → Option StoreFault
read_fault (Ok x) = None
read_fault (Err fault) = fault_read fault

-- one change was made, or was refused with this fault
abbrev pub IsMade : Option StoreFault → Standing → Standing → Type 0
IsMade fault old new = (change : Change) × Commits change fault old new

-- where the tables could not be read, or could not stand, no change was begun
abbrev pub IsLeft : {T : Type 0} → (T → Standing) → CopyFault → T → T → Type 0
IsLeft standing (Read fault) old new = new ≡ old
IsLeft standing OutOfRange old new = new ≡ old
IsLeft standing (Written fault) old new = IsMade (Some fault) (standing old) (standing new)
