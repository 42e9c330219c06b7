-- The line that tells why a run stopped.
use Rattle.std.specs.Prelude.{ℕ, List, ◌++◌, codes}
use Rattle.std.specs.Fmt.{decimal}
use Rattle.building.specs.declared.building_refusal.BuildingFault.{BuildingFault}
use Rattle.building.specs.declared.building_refusal.BuildingFault.TheVariants as building
use Rattle.building.specs.FaultLine.{fault_line}
use Rattle.store.specs.declared.StoreFault.{StoreFault}
use Rattle.store.specs.declared.StoreFault.TheVariants as store
use Rattle.store.specs.declared.open_fault.OpenFault.{OpenFault}
use Rattle.store.specs.declared.open_fault.OpenFault.TheVariants as opening
use Rattle.store.specs.FaultCode.{code_of}
use Rattle.cli_common.specs.declared.run_fault.RunFault.{RunFault}
use Rattle.building_holidays.specs.ImportTexts as holidays
use Rattle.cli_common.specs.declared.run_fault.RunFault.TheVariants.{Building, CannotListen, CannotRead, CannotWrite, Holidays}
use Rattle.cli_common.specs.declared.run_fault.RunFault.TheVariants.{NoDatabase, NoMemory, NoPoint, NotARecord, NotDay, NotDelivery, NotMoment, NotShown}
use Rattle.cli_common.specs.declared.run_fault.RunFault.TheVariants.{OutputFailed, Store, UnknownTables}

-- the line, without the line end
abbrev pub line_of : RunFault → List ℕ
line_of (CannotRead path) = codes "desk: cannot read " ++ path.now
line_of (Building fault) = codes "desk: " ++ fault_line fault
line_of (NotDelivery line) = codes "desk: line " ++ (decimal line ++ codes " is not a delivery")
line_of (Holidays fault) = codes "desk: " ++ holidays.fault_line fault
line_of NotDay = codes "desk: not a day"
line_of (NotMoment text) = codes "desk: " ++ (text.now ++ codes " is not a moment")
line_of (NotShown text) = codes "desk: the building's clock does not show " ++ text.now
line_of (NoPoint name) = codes "desk: no point " ++ name.now
line_of (NoDatabase path) = codes "desk: no database at " ++ path.now
line_of (CannotListen address) = codes "desk: cannot listen on " ++ address.now
line_of (CannotWrite path) = codes "desk: cannot write " ++ path.now
line_of (NotARecord path) = codes "desk: the last line of " ++ (path.now ++ codes " is not a delivery")
line_of OutputFailed = codes "desk: cannot write"
line_of NoMemory = codes "desk: out of memory"
line_of (Store fault) = codes "desk: store fault " ++ code_of fault
line_of UnknownTables = codes "desk: store fault S4"

-- what ends a run whose building is not read
abbrev pub fault_of_building : BuildingFault → RunFault
fault_of_building (building.File fault) = Building fault
fault_of_building building.NoMemory = NoMemory

-- what ends a run whose store did not do what it was asked
abbrev pub fault_of_store : StoreFault → RunFault
fault_of_store store.NoMemory = NoMemory
fault_of_store store.Failed = Store store.Failed
fault_of_store store.Shut = Store store.Shut
fault_of_store store.BadRow = Store store.BadRow

-- what ends a run whose store is not opened
abbrev pub fault_of_opening : OpenFault → RunFault
fault_of_opening opening.NoMemory = NoMemory
fault_of_opening opening.Failed = Store store.Failed
fault_of_opening opening.UnknownTables = UnknownTables
fault_of_opening opening.BadRow = Store store.BadRow
