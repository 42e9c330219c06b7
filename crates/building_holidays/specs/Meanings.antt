-- What the records of a list tell, each by itself and together.
use Rattle.std.specs.Prelude.{ℕ, ◌+◌, List, [], ◌∷◌, Result, Ok, Err}
use Rattle.building_holidays.specs.CsvRecords.{Fields}
use Rattle.points.specs.FaultSteps.{result_map}
use Rattle.building_holidays.specs.declared.import_fault.ImportFault.{ImportFault}

-- what each record tells, where the first has this number
abbrev pub meanings : {A : Type 0} → (ℕ → Fields → Result A ImportFault) → ℕ → List Fields → List (Result A ImportFault)
meanings meaning number [] = []
meanings meaning number (fields ∷ rest) = meaning number fields ∷ meanings meaning (number + 1) rest

-- all values, where there is no fault, else the first fault
abbrev pub all_ok : {A : Type 0} → List (Result A ImportFault) → Result (List A) ImportFault
all_ok [] = Ok []
all_ok (Ok value ∷ rest) = result_map (λ values. value ∷ values) (all_ok rest)
all_ok (Err fault ∷ rest) = Err fault
