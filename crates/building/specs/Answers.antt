-- What a step of reading a building answers.
use Rattle.std.specs.Prelude.{◌≡◌, ℕ, List, codes, Result, Ok, Err}
use Rattle.building.specs.declared.building_refusal.BuildingFault.{BuildingFault}
use Rattle.building.specs.declared.building_refusal.BuildingFault.TheVariants.{File, NoMemory}
use Rattle.building.specs.declared.file_fault.FileFault.{FileFault}
use Rattle.building.specs.FaultLine.{fault_line}

-- the answer is what is meant, value or fault; memory may be refused at any time
abbrev pub Answers : {A : Type 0} → Result A FileFault → Result A BuildingFault → Type 0
Answers meant (Ok value) = meant ≡ Ok value
Answers meant (Err (File fault)) = meant ≡ Err fault
Answers meant (Err NoMemory) = Unit {0}

abbrev pub refusal_text : BuildingFault → List ℕ
refusal_text (File fault) = fault_line fault
refusal_text NoMemory = codes "out of memory"
