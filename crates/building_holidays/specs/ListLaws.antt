-- What the records of a list tell together.
use Rattle.std.specs.Prelude.{◌≡◌, ◌↔◌, List, ◌∷◌, ◌++◌, map, Result, Ok, Err}
use Rattle.building_holidays.specs.Meanings.{all_ok}
use Rattle.building_holidays.specs.declared.import_fault.ImportFault.{ImportFault}
use Rattle.sched.specs.declared.calendar.CalendarEntry.{CalendarEntry}

-- what a record tells
abbrev pub RowResult : Type 0
RowResult = Result CalendarEntry ImportFault

-- each record tells a row, and these are the rows
abbrev pub RowsAreOfAllRecords : Type 0
RowsAreOfAllRecords = (records : List RowResult) (rows : List CalendarEntry)
    → (all_ok records ≡ Ok rows) ↔ (records ≡ map Ok rows)

-- each record before some one tells a row, and that one the fault
abbrev pub IsLeastFault : List RowResult → ImportFault → Type 0
IsLeastFault records fault = (rows : List CalendarEntry) × (later : List RowResult) × (records ≡ map Ok rows ++ Err fault ∷ later)

abbrev pub FaultIsTheLeast : Type 0
FaultIsTheLeast = (records : List RowResult) (fault : ImportFault) → (all_ok records ≡ Err fault) ↔ IsLeastFault records fault
