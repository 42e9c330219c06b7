-- What the calls of a file of lines do.
use Rattle.std.specs.Prelude.{◌≡◌, ℕ, Bool, List, true, false}
use Rattle.std.specs.Bool.{IsTrue}
use Rattle.desk_record.specs.RecordStanding.{FailsToPut, FailsToTake, IsUntouched, PutsLast, RecordStanding, TakesLast}

-- a shut record is left as it is
abbrev pub LeavesShut : Bool → RecordStanding → RecordStanding → Type 0
LeavesShut is_done old new = IsTrue old.is_shut → (is_done ≡ false) × IsUntouched old new

-- a text is put at the end, or the record is shut
pub record Puts (text : List ℕ) (is_done : Bool) (old new : RecordStanding) : Type 0 where
  pub honest : new.is_honest → old.is_honest
  pub done : new.is_honest → is_done ≡ true → PutsLast text old new
  pub failed : new.is_honest → is_done ≡ false → FailsToPut text old new
  pub shuts : is_done ≡ false → IsTrue new.is_shut
  pub shut : new.is_honest → LeavesShut is_done old new

-- the last line is taken off, or the record is shut
pub record Takes (is_done : Bool) (old new : RecordStanding) : Type 0 where
  pub honest : new.is_honest → old.is_honest
  pub done : new.is_honest → is_done ≡ true → TakesLast old new
  pub failed : new.is_honest → is_done ≡ false → FailsToTake old new
  pub shuts : is_done ≡ false → IsTrue new.is_shut
  pub shut : new.is_honest → LeavesShut is_done old new

-- the file is shut, and a stop leaves nothing that it could not leave before
pub record Closes (old new : RecordStanding) : Type 0 where
  pub honest : new.is_honest → old.is_honest
  pub shut : IsTrue new.is_shut
  pub bytes : new.is_honest → new.bytes ≡ old.bytes
  pub leaves : new.is_honest → (bytes : List ℕ) → new.may_leave bytes → old.may_leave bytes
