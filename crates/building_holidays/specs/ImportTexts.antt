-- The line of a fault.
use Rattle.std.specs.Prelude.{ℕ, List, ◌++◌, codes, decimal}
use Rattle.building_holidays.specs.declared.import_fault.ImportCause.{ImportCause}
use Rattle.building_holidays.specs.declared.import_fault.ImportCause.TheVariants as cause
use Rattle.building_holidays.specs.declared.import_fault.ImportFault.{ImportFault}
use Rattle.building_holidays.specs.declared.import_refusal.ImportRefusal.{ImportRefusal}
use Rattle.building_holidays.specs.declared.import_refusal.ImportRefusal.TheVariants as refusal

-- the number of a fault
abbrev pub cause_text : ImportCause → List ℕ
cause_text cause.NotCsv = codes "I1"
cause_text cause.OtherHeader = codes "I2"
cause_text cause.UnknownCalendar = codes "I3"
cause_text cause.NotAnEntry = codes "I4"
cause_text cause.TooManyRows = codes "I5"

-- the number, and that of the record
abbrev pub fault_line : ImportFault → List ℕ
fault_line fault = cause_text fault.cause ++ (codes " record " ++ decimal fault.record)

abbrev pub refusal_text : ImportRefusal → List ℕ
refusal_text (refusal.Fault fault) = fault_line fault
refusal_text refusal.NoMemory = codes "out of memory"
