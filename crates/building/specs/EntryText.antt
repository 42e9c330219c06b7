-- Entry texts of a building file.
use Rattle.std.specs.Prelude.{ℕ, List, Result, Ok, Err}
use Rattle.toml.specs.Data.{Data}
use Rattle.building.specs.declared.cause.Cause.TheVariants.{NotAnEntry}
use Rattle.building.specs.declared.file_fault.FileFault.{FileFault}
use Rattle.building.specs.declared.key.Key.{Key}
use Rattle.building.specs.declared.location.Location.{Location}
use Rattle.building.specs.FaultAt.{fault_at}
use Rattle.points.specs.FaultSteps.{◌>>=◌}
use Rattle.dates.specs.declared.entry.Entry.{Entry}
use Rattle.dates.specs.declared.entry.Entry.TheVariants as entry
use Rattle.dates.specs.declared.entry_fault.EntryFault.{EntryFault}
use Rattle.dates.specs.declared.entry_fault.EntryFault.TheVariants.{Shape}
use Rattle.dates.specs.declared.range.Range.{Range}
use Rattle.dates.specs.Entry.{reading}
use Rattle.building.specs.Fields.{text_in}

-- B8 with the number of the entry's fault
abbrev pub or_fault : {A : Type 0} → Location → Key → Result A EntryFault → Result A FileFault
or_fault location key (Ok x) = Ok x
or_fault location key (Err fault) = Err (fault_at location key (NotAnEntry fault))

abbrev pub entry_of : Location → Key → List ℕ → Result Entry FileFault
entry_of location key text = or_fault location key (reading text)

abbrev pub entry_in : Location → Key → Data → Result Entry FileFault
entry_in location key d = text_in location key d >>= entry_of location key

-- the same, and E1 where the entry is no range
abbrev pub range_of : Location → Key → Result Entry EntryFault → Result Range FileFault
range_of location key (Ok (entry.Range range)) = Ok range
range_of location key (Ok other) = Err (fault_at location key (NotAnEntry Shape))
range_of location key (Err fault) = Err (fault_at location key (NotAnEntry fault))

abbrev pub range_in : Location → Key → List ℕ → Result Range FileFault
range_in location key text = range_of location key (reading text)
