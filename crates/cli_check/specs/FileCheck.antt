-- What the check of a building file prints.
use Rattle.std.specs.Prelude.{◌≡◌, ℕ, List, ◌++◌, codes, decimal, length, Option, Ok}
use Rattle.std.specs.Io.KnownBytes.{Appends}
use Rattle.building.specs.BuildingFile.{Contents, building_of}

-- how many points, panels, calendars and schedules there are, as a line
abbrev pub counts_line : ℕ → ℕ → ℕ → ℕ → List ℕ
counts_line points panels calendars schedules = codes "ok: " ++ (decimal points ++ (codes " points, "
    ++ (decimal panels ++ (codes " panels, " ++ (decimal calendars
    ++ (codes " calendars, " ++ (decimal schedules ++ codes " schedules\n")))))))

abbrev pub ok_line : Contents → List ℕ
ok_line contents = counts_line (length contents.points) (length contents.panels) (length contents.calendars) (length contents.schedules)

-- the file names a building, and its line was printed
pub record Checks (bytes : List ℕ) (old new : Option (List ℕ)) : Type 0 where
  pub contents : Contents
  pub contents_are : building_of bytes ≡ Ok contents
  pub printed : Appends old new (ok_line contents)
