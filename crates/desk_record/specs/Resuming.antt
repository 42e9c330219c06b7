-- A record that is taken up again.
use Rattle.std.specs.Prelude.{◌≡◌, ◌⊎◌, ℕ, List, ◌++◌, length, take}
use Rattle.building.specs.Building.{Building}
use Rattle.desk_record.specs.Lines.{IsWhole}
use Rattle.desk_record.specs.Recorded.{listed}
use Rattle.desk_record.specs.Torn.{IsTorn}
use Rattle.sqlite_disk.specs.Disk.{Cut, Only}

-- the bytes are the file's end, from this place on
abbrev pub IsEndOf : List ℕ → ℕ → List ℕ → Type 0
IsEndOf file from bytes = (front : List ℕ) × (file ≡ front ++ bytes) × (length front ≡ from)

-- a file without what stood after its last line, which may have been torn
abbrev pub LosesTorn : List ℕ → List ℕ → Type 0
LosesTorn old new = (torn : List ℕ) × (old ≡ new ++ torn) × IsTorn torn

-- a file without what stood after its last line, on the disk: it lists the same
pub record IsMended (building : Building) (old new : List ℕ) (may_leave : List ℕ → Type 0) : Type 0 where
  pub whole : IsWhole new
  pub torn : LosesTorn old new
  pub lists : listed building new ≡ listed building old
  pub on_disk : Only new may_leave

-- a file is as it was, or what stood after its last line is off or partly off
abbrev pub KeepsLines : Building → List ℕ → List ℕ → Type 0
KeepsLines building old new =
    (new ≡ old) ⊎ ((whole : ℕ) × (listed building (take whole old) ≡ listed building old) × Cut whole old new)
