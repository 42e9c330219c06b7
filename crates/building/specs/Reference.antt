-- Names that refer to items of the file.
use Rattle.std.specs.Prelude.{ℕ, Bool, ◌&&◌, not, List, [], ◌∷◌, ◌++◌, Result, Ok}
use Rattle.toml.specs.Data.{Items, no_items, item}
use Rattle.building.specs.declared.cause.Cause.TheVariants.{RepeatedName, UnknownName}
use Rattle.building.specs.declared.file_fault.FileFault.{FileFault}
use Rattle.building.specs.declared.key.Key.{Key}
use Rattle.building.specs.declared.location.Location.{Location}
use Rattle.building.specs.FaultAt.{fault_at}
use Rattle.points.specs.FaultSteps.{where_holds, ◌>>=◌}
use Rattle.points.specs.Name.{is_name}
use Rattle.points.specs.NameIndex.{is_among}
use Rattle.building.specs.Roster.{has_name}
use Rattle.building.specs.Fields.{text_in}

-- an item that is there has the name
abbrev pub is_named : {A : Type 0} → (A → List ℕ) → List A → List ℕ → Bool
is_named name_of there name = has_name name_of name there

-- B7 where the text is no name of an item that is there
abbrev pub reference : {A : Type 0} → Location → Key → (A → List ℕ) → List A → List ℕ → Result (List ℕ) FileFault
reference location key name_of there text =
    where_holds (is_name text && is_named name_of there text) (fault_at location key UnknownName) text

-- the names of a list, each once: B6 where one stands before it
abbrev pub each_reference : {A : Type 0} → Location → Key → (A → List ℕ) → List A → List (List ℕ) → Items
    → Result (List (List ℕ)) FileFault
each_reference location key name_of there earlier no_items = Ok earlier
each_reference location key name_of there earlier (item d ds) = do
  text ← text_in location key d
  name ← reference location key name_of there text
  new ← where_holds (not (is_among name earlier)) (fault_at location key RepeatedName) name
  each_reference location key name_of there (earlier ++ new ∷ []) ds
