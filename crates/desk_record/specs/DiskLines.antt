-- How a file of lines on a disk stands.
use Rattle.std.specs.Prelude.{◌≡◌, ℕ, ◌≤◌, Bool, List, ◌++◌, length, take}
use Rattle.std.specs.Bool.{IsTrue}
use Rattle.desk_record.specs.Lines.{IsBetween}
use Rattle.desk_record.specs.RecordStanding.{RecordStanding}

-- the file ends with the last line, which begins here
pub record EndsWith (file : List ℕ) (start : ℕ) (line : List ℕ) : Type 0 where
  pub within : start ≤ length file
  pub ends : file ≡ take start file ++ line

-- Of what the disk may leave, that which is a beginning of what was written: whole up to the last line, and that line
-- as far as it came. No other outcome is spoken of.
abbrev pub standing_of : List ℕ → (List ℕ → Type 0) → Bool → ℕ → List ℕ → Bool → RecordStanding
standing_of file may_leave is_clean start line is_shut = record {
  bytes = file;
  before = take start file;
  is_shut = is_shut;
  is_honest = IsTrue is_clean;
  may_leave = λ bytes. may_leave bytes × IsBetween (take start file) (take start file ++ line) bytes;
}
