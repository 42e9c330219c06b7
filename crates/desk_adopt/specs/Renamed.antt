-- What stands in the tables under the name that one of the building's had.
use Rattle.std.specs.Prelude.{Bool, true, false, List, Option, Some, None, if◌then◌else◌, find}
use Rattle.std.specs.List.{list_any}
use Rattle.std.specs.Str.{bytes_eq}
use Rattle.desk_adopt.specs.declared.renaming.Renaming.{Renaming}
use Rattle.points.specs.Texts.{Text}

-- by the renaming to a name, if there is one, and whether it was renamed itself
abbrev pub name_before : Option Renaming → Bool → Text → Option Text
name_before (Some renaming) is_renamed name = Some renaming.old
name_before None true name = None
name_before None false name = Some name

-- the name that one of the building's has in the tables
abbrev pub former_name : List Renaming → Text → Option Text
former_name renamings name =
    name_before (find (λ it. bytes_eq it.new name) renamings) (list_any (λ it. bytes_eq it.old name) renamings) name

abbrev pub at_name : {A : Type 0} → (Text → A) → A → Option Text → A
at_name table none None = none
at_name table none (Some name) = table name

-- what a table has under the name that one of the building's had; where it had none, what stands for nothing
abbrev pub former : {A : Type 0} → List Renaming → (Text → A) → A → Text → A
former renamings table none name = at_name table none (former_name renamings name)

-- a table at the names of some items, and elsewhere what stands for nothing
abbrev pub at_items : {A X : Type 0} → (X → Text) → List X → (Text → A) → A → Text → A
at_items name_of items table none name = if list_any (λ item. bytes_eq (name_of item) name) items then table name else none
