-- A store that is opened beside a record.
use Rattle.std.specs.Prelude.{◌≡◌, ℕ, Bool, true, false, List, [], Option, Some, None, Result, Ok}
use Rattle.building.specs.Building.{Building}
use Rattle.cli_base.specs.Base.{BeginsOn}
use Rattle.deliveries.specs.declared.delivery.Delivery.{Delivery}
use Rattle.store.specs.declared.open_fault.OpenFault.{OpenFault}
use Rattle.store.specs.Standing.{Content, Standing}
use Rattle.store_memory.specs.declared.mem_store.MemStore.{MemStore}
use Rattle.store_memory.specs.Memory.{standing_of}
use Rattle.cli_record.specs.declared.difference.Difference.{Difference}
use Rattle.cli_record.specs.declared.beside_fault.BesideFault.{BesideFault}
use Rattle.cli_record.specs.declared.beside_fault.BesideFault.TheVariants.{NoDatabase, NotDelivery, OtherRecord, Run}
use Rattle.cli_record.specs.Belonging.{IsMatched, IsOfRecord, TellsOtherwise}
use Rattle.cli_record.specs.RecordRun.{Lists}
use Rattle.cli_record.specs.Replayed.{IsReplayed}

-- a store was only read: it holds what it held, while it is open and as a stop leaves it
pub record HoldsStill (old new : Standing) : Type 0 where
  pub honest : new.is_honest → old.is_honest
  pub kept : new.is_honest → new.is_shut ≡ false → new.content ≡ old.content
  pub left : new.is_honest → old.is_shut ≡ false → (content : Content) → new.may_leave content → content ≡ old.content

-- the difference that a fault tells between a store and a record, if it tells one
abbrev pub told_by : BesideFault → Option Difference
told_by (Run fault) = None
told_by (NotDelivery path line) = None
told_by (NoDatabase path database) = None
told_by (OtherRecord path database difference) = Some difference

-- whether a fault tells that no database is there
abbrev pub tells_no_database : BesideFault → Bool
tells_no_database (Run fault) = false
tells_no_database (NotDelivery path line) = false
tells_no_database (NoDatabase path database) = true
tells_no_database (OtherRecord path database difference) = false

-- the store is open, and was only read; its tables are those of a record that was replayed so, and what the record makes otherwise
-- is told
pub record OpensOver (building : Building) (last : Option Delivery) (replayed : Standing) (otherwise : Option Difference)
    (old new : Standing) : Type 0 where
  pub was_open : old.is_shut ≡ false
  pub is_open : new.is_shut ≡ false
  pub still : HoldsStill old new
  pub own : new.is_honest → (earlier : List Delivery) → (bytes : List ℕ) → IsReplayed building earlier bytes last replayed
      → IsOfRecord building earlier bytes old.content.tables
  pub told : new.is_honest → (earlier : List Delivery) → (bytes : List ℕ) → IsReplayed building earlier bytes last replayed
      → TellsOtherwise building earlier bytes old.content.tables otherwise

-- the store was only read; where a difference is told, its tables are not those of a record that was replayed so, and differ there
pub record RefusesOver (building : Building) (last : Option Delivery) (replayed old new : Standing) (fault : BesideFault) : Type 0 where
  pub still : HoldsStill old new
  pub told : new.is_honest → (earlier : List Delivery) → (bytes : List ℕ) → IsReplayed building earlier bytes last replayed
      → (difference : Difference) → told_by fault ≡ Some difference
      → IsMatched building earlier bytes old.content.tables (Some difference)

-- The store is one that was opened, and was only read since. Where its database was missing, and so was made, the record stands on
-- no base, and the record whose bytes may be these has no delivery.
pub record ReadsBeside {S : Type 0} (standing : S → Standing) (may_open : Result S OpenFault → Type 0) (is_missing : Bool)
    (building : Building) (base : Option MemStore) (may_have : List ℕ → Type 0) (now : Standing) : Type 0 where
  pub opened : S
  pub is_opened : may_open (Ok opened)
  pub made : is_missing ≡ true → (base ≡ None) × ((bytes : List ℕ) → may_have bytes → Lists building bytes [])
  pub still : HoldsStill (standing opened) now

-- and it is open, and its tables are those of that record behind the deliveries that the base has the tables of; what these make
-- otherwise is told
pub record OpensBeside {S : Type 0} (standing : S → Standing) (may_open : Result S OpenFault → Type 0) (is_missing : Bool)
    (building : Building) (base : Option MemStore) (may_have : List ℕ → Type 0) (otherwise : Option Difference) (now : Standing)
    : Type 0 where
  pub reads : ReadsBeside standing may_open is_missing building base may_have now
  pub was_open : (standing reads.opened).is_shut ≡ false
  pub is_open : now.is_shut ≡ false
  pub own : now.is_honest → (earlier : List Delivery) → BeginsOn standing_of building earlier base → (bytes : List ℕ) → may_have bytes
      → IsOfRecord building earlier bytes (standing reads.opened).content.tables
  pub told : now.is_honest → (earlier : List Delivery) → BeginsOn standing_of building earlier base → (bytes : List ℕ) → may_have bytes
      → TellsOtherwise building earlier bytes (standing reads.opened).content.tables otherwise

-- and where a difference is told, its tables are not those of that record, and differ there
pub record RefusesBeside {S : Type 0} (standing : S → Standing) (may_open : Result S OpenFault → Type 0) (is_missing : Bool)
    (building : Building) (base : Option MemStore) (may_have : List ℕ → Type 0) (fault : BesideFault) (now : Standing) : Type 0 where
  pub reads : ReadsBeside standing may_open is_missing building base may_have now
  pub told : now.is_honest → (earlier : List Delivery) → BeginsOn standing_of building earlier base → (bytes : List ℕ) → may_have bytes
      → (difference : Difference) → told_by fault ≡ Some difference
      → IsMatched building earlier bytes (standing reads.opened).content.tables (Some difference)

-- where it is told that no database is there, one is missing beside a record that stands on a base, or has deliveries
abbrev pub MissesDatabase : Bool → Building → Option MemStore → (List ℕ → Type 0) → BesideFault → Type 0
MissesDatabase is_missing building base may_have fault = tells_no_database fault ≡ true → (is_missing ≡ true)
    × (base ≡ None → (bytes : List ℕ) → may_have bytes → (deliveries : List Delivery) × Lists building bytes deliveries
    × (deliveries ≡ [] → ⊥))
