-- The codes S1 to S5 of the faults of a store and of its opening.
use Rattle.std.specs.Prelude.{ℕ, List, codes}
use Rattle.store.specs.declared.fault.StoreFault.{StoreFault}
use Rattle.store.specs.declared.fault.StoreFault.TheVariants as store
use Rattle.store.specs.declared.open_fault.OpenFault.{OpenFault}
use Rattle.store.specs.declared.open_fault.OpenFault.TheVariants as opening

-- how a fault is printed
abbrev pub code_of : StoreFault → List ℕ
code_of store.NoMemory = codes "S1"
code_of store.Failed = codes "S2"
code_of store.Shut = codes "S3"
code_of store.BadRow = codes "S5"

-- how a fault of an opening is printed
abbrev pub opening_code : OpenFault → List ℕ
opening_code opening.NoMemory = codes "S1"
opening_code opening.Failed = codes "S2"
opening_code opening.UnknownTables = codes "S4"
opening_code opening.BadRow = codes "S5"
