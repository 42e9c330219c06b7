-- What a base has: the tables of the deliveries before a record began.
use Rattle.std.specs.Prelude.{◌≡◌, ◌⊎◌, ⊤, ℕ, IfOk, List, [], Option, Some, None, Result, Ok, Err}
use Rattle.building.specs.Building.{Building, contents_of}
use Rattle.building.specs.BuildingFile.{building_of}
use Rattle.deliveries.specs.declared.delivery.Delivery.{Delivery}
use Rattle.cli_base.specs.declared.reading.BaseFault.{BaseFault}
use Rattle.cli_base.specs.declared.reading.BaseFault.TheVariants.{NotOpened, NotRead}
use Rattle.deliveries.specs.Delivered.{Holds}
use Rattle.store.specs.declared.fault.StoreFault.{StoreFault}
use Rattle.store.specs.declared.fault.StoreFault.TheVariants.{BadRow, NoMemory}
use Rattle.store.specs.declared.open_fault.OpenFault.{OpenFault}
use Rattle.store.specs.Standing.{Reads, Standing}
use Rattle.store_memory.specs.declared.mem_store.MemStore.{MemStore}
use Rattle.store_memory.specs.Memory.{standing_of}

-- a base has the tables of these earlier deliveries; where there is no base, they are none
abbrev pub BeginsOn : {S : Type 0} → (S → Standing) → Building → List Delivery → Option S → Type 0
BeginsOn standing building earlier None = earlier ≡ []
BeginsOn standing building earlier (Some base) = Holds building earlier (standing base)

-- the tables are those of earlier deliveries to the building of a file
abbrev pub StandsOn : Option MemStore → (file : List ℕ) → List Delivery → Type 0
StandsOn tables file earlier =
    (building : Building) → building_of file ≡ Ok (contents_of building) → BeginsOn standing_of building earlier tables

-- whatever a call may find, it is such a base
abbrev pub MayBeginOn : {S : Type 0} → (S → Standing) → (Result (Option S) OpenFault → Type 0) → Building → List Delivery → Type 0
MayBeginOn {S} standing may_find building earlier =
    (found : Result (Option S) OpenFault) → may_find found → IfOk found (BeginsOn standing building earlier)

-- the store that was found, if there is one, was only read
abbrev pub IsOnlyRead : {S : Type 0} → (S → Standing) → Option S → Option S → Type 0
IsOnlyRead standing None None = ⊤
IsOnlyRead standing None (Some left) = ⊥
IsOnlyRead standing (Some found) None = ⊥
IsOnlyRead standing (Some found) (Some left) = Reads None (standing found) (standing left)

-- its device has given back what was written
abbrev pub IsHonest : {S : Type 0} → (S → Standing) → Option S → Type 0
IsHonest standing None = ⊤
IsHonest standing (Some left) = (standing left).is_honest

-- what a store in memory may tell: that there is no memory, or that what it has can't stand
abbrev pub IsOfMemory : StoreFault → Type 0
IsOfMemory fault = (fault ≡ NoMemory) ⊎ (fault ≡ BadRow)

-- why a base is not read: it was not found, as what finds it told; or it was, and the store told the fault as it was read, or memory for
-- its tables was refused, or they can't stand
abbrev pub IsCause : {S : Type 0} → (S → Standing) → (Result (Option S) OpenFault → Type 0) → BaseFault → Type 0
IsCause standing may_find (NotOpened fault) = may_find (Err fault)
IsCause {S} standing may_find (NotRead fault) = (found : S) × may_find (Ok (Some found))
    × (((left : S) × Reads (Some fault) (standing found) (standing left)) ⊎ IsOfMemory fault)

-- A base was found and only read, and this is what it left; its tables in memory are of the same earlier deliveries,
-- whatever they are.
pub record IsRead {S : Type 0} (standing : S → Standing) (may_find : Result (Option S) OpenFault → Type 0)
    (left : Option S) (tables : Option MemStore) : Type 0 where
  pub found : Option S
  pub is_found : may_find (Ok found)
  pub only_read : IsOnlyRead standing found left
  pub copied : (building : Building) (earlier : List Delivery) → BeginsOn standing building earlier found
      → IsHonest standing left → BeginsOn standing_of building earlier tables
