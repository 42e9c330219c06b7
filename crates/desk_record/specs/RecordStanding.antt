-- A record of lines on disk: what a line put, a line taken back, a failure and a stop each leave.
use Rattle.std.specs.Prelude.{◌≡◌, ◌⊎◌, ℕ, Bool, false, List, ◌++◌}
use Rattle.std.specs.Bool.{IsTrue}
use Rattle.desk_record.specs.Lines.{IsBetween}

-- How a record stands.
pub record RecordStanding : Type 1 where
  -- its bytes
  pub bytes : List ℕ
  -- those before its last line, as long as that line can be taken back
  pub before : List ℕ
  -- whether it is shut, by a failure or by a call
  pub is_shut : Bool
  -- so far the device has given back what was written, and nobody else wrote there
  pub is_honest : Type 0
  -- what a stop at this moment may leave
  pub may_leave : List ℕ → Type 0

-- a stop leaves the bytes and nothing else
abbrev pub IsOnDisk : RecordStanding → Type 0
IsOnDisk standing = (bytes : List ℕ) → standing.may_leave bytes → bytes ≡ standing.bytes

-- nothing has changed, and a stop leaves nothing that it could not leave before
pub record IsUntouched (old new : RecordStanding) : Type 0 where
  pub bytes : new.bytes ≡ old.bytes
  pub before : new.before ≡ old.before
  pub is_shut : new.is_shut ≡ old.is_shut
  pub leaves : (bytes : List ℕ) → new.may_leave bytes → old.may_leave bytes

-- a text stands at the end, on the disk
pub record PutsLast (text : List ℕ) (old new : RecordStanding) : Type 0 where
  pub was_open : old.is_shut ≡ false
  pub is_open : new.is_shut ≡ false
  pub bytes : new.bytes ≡ old.bytes ++ text
  pub before : new.before ≡ old.bytes
  pub on_disk : IsOnDisk new

-- the record is shut, and a stop leaves what it could leave before, or a beginning of a text behind it
pub record FailsToPut (text : List ℕ) (old new : RecordStanding) : Type 0 where
  pub shut : IsTrue new.is_shut
  pub leaves : (bytes : List ℕ) → new.may_leave bytes
      → old.may_leave bytes ⊎ ((old.is_shut ≡ false) × IsBetween old.bytes (old.bytes ++ text) bytes)

-- the last line is off again, on the disk
pub record TakesLast (old new : RecordStanding) : Type 0 where
  pub was_open : old.is_shut ≡ false
  pub is_open : new.is_shut ≡ false
  pub bytes : new.bytes ≡ old.before
  pub before : new.before ≡ old.before
  pub on_disk : IsOnDisk new

-- the record is shut, and a stop leaves what it could leave before, or the bytes with a part of the last line or without it
pub record FailsToTake (old new : RecordStanding) : Type 0 where
  pub shut : IsTrue new.is_shut
  pub leaves : (bytes : List ℕ) → new.may_leave bytes
      → old.may_leave bytes ⊎ ((old.is_shut ≡ false) × IsBetween old.before old.bytes bytes)

-- the record is shut, and a stop leaves nothing that it could not leave before
pub record Shuts (old new : RecordStanding) : Type 0 where
  pub honest : new.is_honest → old.is_honest
  pub shut : new.is_honest → IsTrue new.is_shut
  pub bytes : new.is_honest → new.bytes ≡ old.bytes
  pub leaves : new.is_honest → (bytes : List ℕ) → new.may_leave bytes → old.may_leave bytes
