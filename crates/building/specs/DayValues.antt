-- What a schedule of a building file says of each day.
use Rattle.std.specs.Prelude.{ℕ, ℤ, Bool, true, ◌&&◌, List, [], ◌∷◌, Option, Some, None, Result, Ok}
use Rattle.std.specs.List.{list_all}
use Rattle.toml.specs.Data.{Items, Members}
use Rattle.building.specs.declared.cause.Cause.TheVariants.{OutsideKind}
use Rattle.building.specs.declared.file_fault.FileFault.{FileFault}
use Rattle.building.specs.declared.key.Key.TheVariants as key
use Rattle.building.specs.declared.location.Location.{Location}
use Rattle.building.specs.FaultAt.{fault_at}
use Rattle.points.specs.FaultSteps.{where_holds, ◌>>=◌}
use Rattle.points.specs.declared.Kind.{Kind}
use Rattle.sched.specs.declared.day_list.TimeValue.{TimeValue}
use Rattle.sched.specs.declared.exception.Exception.{Exception}
use Rattle.building.specs.declared.day_values.DayValues.{DayValues}
use Rattle.building.specs.declared.named_calendar.NamedCalendar.{NamedCalendar}
use Rattle.building.specs.ExceptionTable.{exception_in, is_sound_exception}
use Rattle.building.specs.Kinds.{lies_in_all}
use Rattle.building.specs.TimeLists.{is_list_within, list_of}
use Rattle.building.specs.Fields.{optional_integer_at, optional_list_at}
use Rattle.building.specs.Items.{all_tables, at_most, each_item, exactly, list_item_at}

-- the default, which is NULL where the key is missing; B11 where it lies outside a kind
abbrev pub default_in : Location → List Kind → Members → Result (Option ℤ) FileFault
default_in location kinds ms = optional_integer_at location key.Default ms
    >>= (λ value. where_holds (lies_in_all kinds value) (fault_at location key.Default OutsideKind) value)

abbrev pub seven_empty : List (List TimeValue)
seven_empty = [] ∷ [] ∷ [] ∷ [] ∷ [] ∷ [] ∷ [] ∷ []

-- the list of a day, Monday's at 0
abbrev pub day_in : ℕ → Location → List Kind → Items → Result (List TimeValue) FileFault
day_in index location kinds items = list_item_at index location key.Weekly items >>= list_of location key.Weekly kinds

unfoldable pub seven_lists : Location → List Kind → Items → Result (List (List TimeValue)) FileFault
seven_lists location kinds items = do
  monday ← day_in 0 location kinds items
  tuesday ← day_in 1 location kinds items
  wednesday ← day_in 2 location kinds items
  thursday ← day_in 3 location kinds items
  friday ← day_in 4 location kinds items
  saturday ← day_in 5 location kinds items
  sunday ← day_in 6 location kinds items
  Ok (monday ∷ tuesday ∷ wednesday ∷ thursday ∷ friday ∷ saturday ∷ sunday ∷ [])

-- B4 for another number of lists than seven
abbrev pub week_of : Location → List Kind → Items → Result (List (List TimeValue)) FileFault
week_of location kinds items = exactly 7 location key.Weekly items >>= (λ _. seven_lists location kinds items)

abbrev pub week_or_empty : Location → List Kind → Option Items → Result (List (List TimeValue)) FileFault
week_or_empty location kinds None = Ok seven_empty
week_or_empty location kinds (Some items) = week_of location kinds items

abbrev pub week_in : Location → List Kind → Members → Result (List (List TimeValue)) FileFault
week_in location kinds ms = optional_list_at location key.Weekly ms >>= week_or_empty location kinds

-- where the exceptions of a table stand
abbrev pub exceptions_at : Location → Location
exceptions_at location = record location { in_exception = true }

-- at most 100 exceptions, all of them tables
abbrev pub exceptions_of : Location → List NamedCalendar → List Kind → Items → Result (List Exception) FileFault
exceptions_of location calendars kinds items = do
  few ← at_most 100 location key.Exception items
  tables ← all_tables location key.Exception items
  each_item (exception_in (exceptions_at location) calendars kinds) items

abbrev pub exceptions_or_none : Location → List NamedCalendar → List Kind → Option Items → Result (List Exception) FileFault
exceptions_or_none location calendars kinds None = Ok []
exceptions_or_none location calendars kinds (Some items) = exceptions_of location calendars kinds items

abbrev pub exceptions_in : Location → List NamedCalendar → List Kind → Members → Result (List Exception) FileFault
exceptions_in location calendars kinds ms =
    optional_list_at location key.Exception ms >>= exceptions_or_none location calendars kinds

unfoldable pub day_values_in : Location → List NamedCalendar → List Kind → Members → Result DayValues FileFault
day_values_in location calendars kinds ms = do
  default ← default_in location kinds ms
  weekly ← week_in location kinds ms
  exceptions ← exceptions_in location calendars kinds ms
  Ok (record { default = default; weekly = weekly; exceptions = exceptions })

-- what holds of values that were read
abbrev pub are_sound : List NamedCalendar → List Kind → DayValues → Bool
are_sound calendars kinds values = lies_in_all kinds values.default
    && (list_all (is_list_within kinds) values.weekly && list_all (is_sound_exception calendars kinds) values.exceptions)
