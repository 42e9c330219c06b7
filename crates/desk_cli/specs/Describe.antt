-- What a description prints.
use Rattle.std.specs.Prelude.{◌≡◌, ℕ, List, Option, Ok}
use Rattle.std.specs.Io.KnownBytes.{Appends}
use Rattle.building.specs.BuildingFile.{Contents, building_of}
use Rattle.desk_cli.specs.Description.{description_line}
use Rattle.desk_cli.specs.ZoneText.{zone_of}

-- the bytes name a building, and this is its line
pub record Tells (bytes line : List ℕ) : Type 0 where
  pub contents : Contents
  pub contents_are : building_of bytes ≡ Ok contents
  pub line_is : line ≡ description_line (zone_of bytes) contents

-- the file names a building, and its line was printed
pub record Describes (bytes : List ℕ) (old new : Option (List ℕ)) : Type 0 where
  pub line : List ℕ
  pub is_reported : Tells bytes line
  pub printed : Appends old new line
