-- What a step of reading a holiday list answers.
use Rattle.std.specs.Prelude.{◌≡◌, Result, Ok, Err}
use Rattle.building_holidays.specs.declared.import_fault.ImportFault.{ImportFault}
use Rattle.building_holidays.specs.declared.import_refusal.ImportRefusal.{ImportRefusal}
use Rattle.building_holidays.specs.declared.import_refusal.ImportRefusal.TheVariants.{Fault, NoMemory}

-- the answer is what is meant, value or fault; memory may be refused at any time
abbrev pub Answers : {A : Type 0} → Result A ImportFault → Result A ImportRefusal → Type 0
Answers meant (Ok value) = meant ≡ Ok value
Answers meant (Err (Fault fault)) = meant ≡ Err fault
Answers meant (Err NoMemory) = Unit {0}
