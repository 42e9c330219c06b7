-- Why a base is not read.
use Rattle.std.proofs.Common.{Option, Some, Result, Ok, Err, inl, inr, refl}
use Rattle.std.proofs.lemmas.Bool.{false≢true}
use Rattle.store.specs.declared.fault.StoreFault.{StoreFault}
use Rattle.store.specs.declared.fault.StoreFault.TheVariants as by
use Rattle.store.specs.declared.open_fault.OpenFault.{OpenFault}
use Rattle.store.specs.Standing.{Goes, Standing}
use Rattle.store_memory.specs.declared.mem_store.MemStore.{MemStore}
use Rattle.store_memory.specs.Memory.{standing_of}
use Rattle.cli_base.specs.declared.reading.BaseFault.{BaseFault}
use Rattle.cli_base.specs.declared.reading.BaseFault.TheVariants.{NotOpened, NotRead}
use Rattle.cli_base.specs.Base.{IsCause, IsOfMemory}

-- a store in memory never fails, and is never shut
pub of_memory : (fault : StoreFault) (old new : MemStore) → Goes (Some fault) (standing_of old) (standing_of new) → IsOfMemory fault
of_memory by.NoMemory old new goes = inl refl
of_memory by.Failed old new goes = absurd (false≢true (goes.failed refl).0)
of_memory by.Shut old new goes = absurd (false≢true (goes.shut.0 refl))
of_memory by.BadRow old new goes = inr refl

-- what holds of what was found holds of what may be found
pub cause-weaker : {S : Type 0} {P Q : Result (Option S) OpenFault → Type 0} (standing : S → Standing) (fault : BaseFault)
    → ((it : Result (Option S) OpenFault) → P it → Q it) → IsCause standing P fault → IsCause standing Q fault
cause-weaker standing (NotOpened fault) follows is = follows (Err fault) is
cause-weaker standing (NotRead fault) follows (found, is, cause) = (found, follows (Ok (Some found)) is, cause)
