-- The fault of a record.
use Rattle.std.specs.Prelude.{ℕ}
use Rattle.building_holidays.specs.declared.import_fault.ImportCause.{ImportCause}
use Rattle.building_holidays.specs.declared.import_fault.ImportFault.{ImportFault}

-- what is wrong in the record of a number
abbrev pub fault : ImportCause → ℕ → ImportFault
fault cause number = record { cause = cause; «record» = number }
