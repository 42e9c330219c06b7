-- A run beside a record, which changes its store only where the store is the record's own.
use Rattle.std.specs.Prelude.{◌≡◌, ◌⊎◌, ℕ, Bool, true, List, [], Option, None, Result, Ok}
use Rattle.building.specs.Building.{Building, contents_of}
use Rattle.building.specs.BuildingFile.{building_of}
use Rattle.cli_base.specs.Base.{BeginsOn}
use Rattle.cli_record.specs.Belonging.{IsOfRecord}
use Rattle.cli_record.specs.Beside.{HoldsStill}
use Rattle.cli_record.specs.RecordRun.{Lists}
use Rattle.deliveries.specs.declared.delivery.Delivery.{Delivery}
use Rattle.store.specs.declared.open_fault.OpenFault.{OpenFault}
use Rattle.store.specs.Standing.{Standing}
use Rattle.store.specs.Tables.{Tables}
use Rattle.store_memory.specs.declared.mem_store.MemStore.{MemStore}
use Rattle.store_memory.specs.Memory.{standing_of}

-- the tables are those of a record of these bytes on its base, for the building of a file
pub record IsOwn (file : List ℕ) (base : Option MemStore) (list : List ℕ) (held : Tables) : Type 0 where
  pub building : Building
  pub building_is : building_of file ≡ Ok (contents_of building)
  pub is : (earlier : List Delivery) → BeginsOn standing_of building earlier base → IsOfRecord building earlier list held

-- a record of these bytes stands on no base, and has no delivery, for the building of a file
pub record TellsNone (file : List ℕ) (base : Option MemStore) (list : List ℕ) : Type 0 where
  pub building : Building
  pub building_is : building_of file ≡ Ok (contents_of building)
  pub no_base : base ≡ None
  pub none : Lists building list []

-- Of the store that was opened: where its database was missing, and so was made, the record has neither a base nor a delivery. It
-- was only read; or the run began to deliver over it, only read until then, and its tables were those of the record on its base.
pub record IsGuarded {S : Type 0} (standing : S → Standing) (may_open : Result S OpenFault → Type 0) (is_missing : Bool)
    (file : List ℕ) (base : Option MemStore) (list : List ℕ) (left : S) : Type 0 where
  pub opened : S
  pub is_opened : may_open (Ok opened)
  pub made : is_missing ≡ true → TellsNone file base list
  pub guards : HoldsStill (standing opened) (standing left)
      ⊎ ((began : S) × HoldsStill (standing opened) (standing began)
      × ((standing began).is_honest → IsOwn file base list (standing opened).content.tables))
