-- What stands at the keys of a table of a building file.
use Rattle.std.specs.Prelude.{ℕ, ℤ, Bool, true, ◌&&◌, List, Option, Some, None, Result, Ok, ⊤, is_some, not}
use Rattle.std.specs.List.{list_any}
use Rattle.std.specs.Str.{bytes_eq}
use Rattle.toml.specs.Data.{Data, Items, Members, no_members, member, as_array, as_integer, as_str, get_member}
use Rattle.building.specs.declared.cause.Cause.TheVariants.{MissingKey, UnknownKey, WrongType}
use Rattle.building.specs.declared.file_fault.FileFault.{FileFault}
use Rattle.building.specs.declared.key.Key.{Key}
use Rattle.building.specs.declared.key.Key.TheVariants as key
use Rattle.building.specs.declared.location.Location.{Location}
use Rattle.building.specs.FaultAt.{fault_at}
use Rattle.building.specs.FaultLine.{key_text}
use Rattle.points.specs.FaultSteps.{or_fault, where_holds, ◌>>=◌}

-- the table has no key but these
abbrev pub has_only : List Key → Members → Bool
has_only known no_members = true
has_only known (member key value ms) = list_any (λ k. bytes_eq (key_text k) key) known && has_only known ms

-- B2 where the table has another key
abbrev pub known_keys : Location → List Key → Members → Result ⊤ FileFault
known_keys location known ms = where_holds (has_only known ms) (fault_at location key.Unknown UnknownKey) tt

abbrev pub has_key : Members → Key → Bool
has_key ms key = is_some (get_member (key_text key) ms)

-- B2 where the table has one of these keys
abbrev pub lacks_keys : Location → List Key → Members → Result ⊤ FileFault
lacks_keys location keys ms = where_holds (not (list_any (has_key ms) keys)) (fault_at location key.Unknown UnknownKey) tt

-- B3 where the key is missing
abbrev pub required_at : Location → Key → Members → Result Data FileFault
required_at location key ms = or_fault (fault_at location key MissingKey) (get_member (key_text key) ms)

-- B4 where the value is of another type
abbrev pub text_in : Location → Key → Data → Result (List ℕ) FileFault
text_in location key d = or_fault (fault_at location key WrongType) (as_str d)

abbrev pub integer_in : Location → Key → Data → Result ℤ FileFault
integer_in location key d = or_fault (fault_at location key WrongType) (as_integer d)

abbrev pub list_in : Location → Key → Data → Result Items FileFault
list_in location key d = or_fault (fault_at location key WrongType) (as_array d)

abbrev pub text_at : Location → Key → Members → Result (List ℕ) FileFault
text_at location key ms = required_at location key ms >>= text_in location key

abbrev pub integer_at : Location → Key → Members → Result ℤ FileFault
integer_at location key ms = required_at location key ms >>= integer_in location key

abbrev pub list_at : Location → Key → Members → Result Items FileFault
list_at location key ms = required_at location key ms >>= list_in location key

-- what is read of a value that may be missing
abbrev pub optional : {A : Type 0} → (Data → Result A FileFault) → Option Data → Result (Option A) FileFault
optional read None = Ok None
optional read (Some d) = read d >>= (λ x. Ok (Some x))

abbrev pub optional_text_at : Location → Key → Members → Result (Option (List ℕ)) FileFault
optional_text_at location key ms = optional (text_in location key) (get_member (key_text key) ms)

abbrev pub optional_integer_at : Location → Key → Members → Result (Option ℤ) FileFault
optional_integer_at location key ms = optional (integer_in location key) (get_member (key_text key) ms)

abbrev pub optional_list_at : Location → Key → Members → Result (Option Items) FileFault
optional_list_at location key ms = optional (list_in location key) (get_member (key_text key) ms)
