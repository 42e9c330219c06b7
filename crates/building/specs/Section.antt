-- The tables of a section of a building file, each with a name of its own.
use Rattle.std.specs.Prelude.{ℕ, ◌+◌, not, List, [], ◌∷◌, ◌++◌, length, false, Result, Ok}
use Rattle.toml.specs.Data.{Data, Items, no_items, item, Members, as_table}
use Rattle.building.specs.declared.cause.Cause.TheVariants.{NotAName, RepeatedName, WrongType}
use Rattle.building.specs.declared.file_fault.FileFault.{FileFault}
use Rattle.building.specs.declared.key.Key.{Key}
use Rattle.building.specs.declared.key.Key.TheVariants as key
use Rattle.building.specs.declared.location.Location.{Location}
use Rattle.building.specs.declared.section.Section.{Section}
use Rattle.building.specs.FaultAt.{fault_at}
use Rattle.points.specs.FaultSteps.{or_fault, where_holds, ◌>>=◌}
use Rattle.building.specs.Roster.{has_name}
use Rattle.points.specs.Texts.{name_of as name_in}
use Rattle.building.specs.Fields.{known_keys, text_at}

-- the name that a table gives itself: B3, B4, and B5 where it is none
abbrev pub name_at : Location → Members → Result (List ℕ) FileFault
name_at location ms = text_at location key.Name ms >>= (λ text. or_fault (fault_at location key.Name NotAName) (name_in text))

-- the same, and B6 where a table before it in the section has the name
abbrev pub new_name : {A : Type 0} → Location → (A → List ℕ) → List A → Members → Result (List ℕ) FileFault
new_name location name_of earlier ms = name_at location ms
    >>= (λ name. where_holds (not (has_name name_of name earlier)) (fault_at location key.Name RepeatedName) name)

-- the item as a table; that all are is seen before the first is read
abbrev pub table_at : Location → Data → Result Members FileFault
table_at location d = or_fault (fault_at location key.Unknown WrongType) (as_table d)

-- what a table means: B2 for a key that is none of its own, then its name, then the rest
abbrev pub table_in : {A : Type 0} → List Key → (A → List ℕ) → (Location → List ℕ → Members → Result A FileFault)
    → Location → List A → Data → Result A FileFault
table_in known name_of rest location earlier d = do
  ms ← table_at location d
  allowed ← known_keys location known ms
  name ← new_name location name_of earlier ms
  rest location name ms

-- where a table stands after so many others
abbrev pub location_after : Section → ℕ → Location
location_after section count = record { section = section; position = count + 1; in_exception = false }

-- what the tables mean, each after those before it
abbrev pub each_table : {A : Type 0} → Section → (A → List ℕ) → (Location → List A → Data → Result A FileFault)
    → List A → Items → Result (List A) FileFault
each_table section name_of read earlier no_items = Ok earlier
each_table section name_of read earlier (item d ds) = read (location_after section (length earlier)) earlier d
    >>= (λ x. each_table section name_of read (earlier ++ x ∷ []) ds)
