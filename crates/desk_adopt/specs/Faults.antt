-- The fault where nothing was taken along, and what that leaves.
use Rattle.std.specs.Prelude.{◌≡◌, List, Option, Some, None, Result, Ok, Err, ⊤}
use Rattle.building.specs.Building.{Building}
use Rattle.desk_adopt.specs.declared.adopting.AdoptFault.{AdoptFault}
use Rattle.desk_adopt.specs.declared.adopting.AdoptFault.TheVariants.{Old, Joined, OutOfRange, New}
use Rattle.desk_adopt.specs.declared.renaming.Renaming.{Renaming}
use Rattle.desk_adopt.specs.declared.sections.Sections.{Sections}
use Rattle.desk_adopt.specs.Sections.{AreSections, joined}
use Rattle.store.specs.declared.change.Change.{Change}
use Rattle.store.specs.declared.fault.StoreFault.{StoreFault}
use Rattle.store.specs.Standing.{Commits, Standing}
use Rattle.store.specs.Tables.{Tables}

-- the fault of the store that is read
abbrev pub fault_read : AdoptFault → Option StoreFault
fault_read (Old fault) = Some fault
fault_read (Joined renaming) = None
fault_read OutOfRange = None
fault_read (New fault) = None

abbrev pub read_fault : {A : Type 0} → Result A AdoptFault → Option StoreFault
read_fault (Ok x) = None
read_fault (Err fault) = fault_read fault

-- one change was made, or was refused with this fault
abbrev pub IsMade : Option StoreFault → Standing → Standing → Type 0
IsMade fault old new = (change : Change) × Commits change fault old new

-- where the earlier tables could not be taken along, no change was begun
abbrev pub IsLeft : {T : Type 0} → (T → Standing) → AdoptFault → T → T → Type 0
IsLeft standing (Old fault) old new = new ≡ old
IsLeft standing (Joined renaming) old new = new ≡ old
IsLeft standing OutOfRange old new = new ≡ old
IsLeft standing (New fault) old new = IsMade (Some fault) (standing old) (standing new)

-- a renaming that is reported is the first that would make one thing of two
abbrev pub IsCause : Building → List Renaming → Tables → AdoptFault → Type 0
IsCause building renamings tables (Joined it) =
    (sections : Sections) × AreSections building renamings tables sections × (joined sections ≡ Some it)
IsCause building renamings tables (Old fault) = ⊤
IsCause building renamings tables OutOfRange = ⊤
IsCause building renamings tables (New fault) = ⊤
