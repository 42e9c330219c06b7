-- What a keeper of deliveries does.
use Rattle.std.specs.Prelude.{◌≡◌, ◌⊎◌, ℕ, false, List, [], ◌∷◌, ◌++◌, Option, Some, None}
use Rattle.std.specs.Bool.{IsTrue}
use Rattle.building.specs.Building.{Building}
use Rattle.deliveries.specs.declared.delivery.Delivery.{Delivery}
use Rattle.desk_record.specs.declared.recorder.RecordFault.{RecordFault}
use Rattle.desk_record.specs.declared.recorder.RecordFault.TheVariants.{NoMemory, Failed}
use Rattle.desk_record.specs.Lines.{IsBetween}
use Rattle.desk_record.specs.Recorded.{IsLineOf}
use Rattle.desk_record.specs.RecordStanding.{FailsToTake, IsUntouched, PutsLast, RecordStanding, TakesLast}

-- a line of the delivery stands last, on the disk
abbrev pub HasWritten : Building → Delivery → RecordStanding → RecordStanding → Type 0
HasWritten building delivery old new = (line : List ℕ) × IsLineOf building delivery line × PutsLast (line ++ 10 ∷ []) old new

-- the record is shut, and a stop leaves what it could leave before, or a beginning of a line of the delivery behind it
pub record FailsToWrite (building : Building) (delivery : Delivery) (old new : RecordStanding) : Type 0 where
  pub shut : IsTrue new.is_shut
  pub leaves : (bytes : List ℕ) → new.may_leave bytes → old.may_leave bytes
      ⊎ ((line : List ℕ) × IsLineOf building delivery line × (old.is_shut ≡ false)
      × IsBetween old.bytes (old.bytes ++ (line ++ 10 ∷ [])) bytes)

-- A delivery is written down; without memory nothing changes; a record that is shut fails, and stays as it is. A record that
-- fails is shut, whatever its device did.
pub record WritesDown (building : Building) (delivery : Delivery) (fault : Option RecordFault) (old new : RecordStanding) : Type 0 where
  pub honest : new.is_honest → old.is_honest
  pub written : new.is_honest → fault ≡ None → HasWritten building delivery old new
  pub unchanged : new.is_honest → fault ≡ Some NoMemory → IsUntouched old new
  pub failed : new.is_honest → fault ≡ Some Failed → FailsToWrite building delivery old new
  pub shuts : fault ≡ Some Failed → IsTrue new.is_shut
  pub shut : new.is_honest → IsTrue old.is_shut → (fault ≡ Some Failed) × IsUntouched old new

-- The last line is taken back, which takes no memory; a record that is shut fails, and stays as it is. A record that fails is
-- shut, whatever its device did.
pub record TakesBack (fault : Option RecordFault) (old new : RecordStanding) : Type 0 where
  pub honest : new.is_honest → old.is_honest
  pub taken : new.is_honest → fault ≡ None → TakesLast old new
  pub failed : new.is_honest → fault ≡ Some Failed → FailsToTake old new
  pub shuts : fault ≡ Some Failed → IsTrue new.is_shut
  pub never_memory : new.is_honest → fault ≡ Some NoMemory → ⊥
  pub shut : new.is_honest → IsTrue old.is_shut → (fault ≡ Some Failed) × IsUntouched old new
