-- The exceptions of a schedule in a building file.
use Rattle.std.specs.Prelude.{ℕ, Bool, true, ◌&&◌, nat_lt, List, [], ◌∷◌, length, position, Option, Some, None, option_and_then, option_map, Result, Ok, Err}
use Rattle.toml.specs.Data.{Data, Members, as_table, get_member}
use Rattle.building.specs.declared.cause.Cause.TheVariants.{MissingKey, UnknownKey, UnknownName, WrongType}
use Rattle.building.specs.declared.file_fault.FileFault.{FileFault}
use Rattle.building.specs.declared.key.Key.{Key}
use Rattle.building.specs.declared.key.Key.TheVariants as key
use Rattle.building.specs.declared.location.Location.{Location}
use Rattle.building.specs.FaultAt.{fault_at}
use Rattle.building.specs.FaultLine.{key_text}
use Rattle.points.specs.FaultSteps.{or_fault, ◌>>=◌}
use Rattle.points.specs.declared.Kind.{Kind}
use Rattle.building.specs.Roster.{has_the_name}
use Rattle.sched.specs.declared.day_list.TimeValue.{TimeValue}
use Rattle.sched.specs.declared.calendar.CalId.{CalId}
use Rattle.sched.specs.declared.exception.Exception.{Exception}
use Rattle.sched.specs.declared.exception.Period.{Period}
use Rattle.sched.specs.declared.exception.Period.TheVariants as period
use Rattle.building.specs.declared.named_calendar.NamedCalendar.{NamedCalendar}
use Rattle.building.specs.EntryText.{entry_in}
use Rattle.building.specs.TimeLists.{is_list_within, list_of}
use Rattle.points.specs.Texts.{name_of}
use Rattle.building.specs.Fields.{known_keys, list_at, required_at, text_in}
use Rattle.building.specs.Priority.{event_priority_in}
use Rattle.points.specs.Priority.{is_priority}

abbrev pub exception_keys : List Key
exception_keys = key.Priority ∷ key.Entry ∷ key.Calendar ∷ key.Times ∷ []

-- the calendar that a text names, by its index in the file from 0
abbrev pub calendar_named : List NamedCalendar → List ℕ → Option CalId
calendar_named calendars text = option_map (λ n. record { index = n }) (option_and_then
    (λ name. position (has_the_name (λ (calendar : NamedCalendar). calendar.name) name) calendars) (name_of text))

-- B4, B7 where no calendar has the name
abbrev pub calendar_at : Location → List NamedCalendar → Data → Result CalId FileFault
calendar_at location calendars d = text_in location key.Calendar d
    >>= (λ text. or_fault (fault_at location key.Calendar UnknownName) (calendar_named calendars text))

-- the days of an entry or of a calendar: B3 for neither, B2 for both
abbrev pub period_of : Location → List NamedCalendar → Option Data → Option Data → Result Period FileFault
period_of location calendars None None = Err (fault_at location key.Entry MissingKey)
period_of location calendars (Some entry) None =
    entry_in location key.Entry entry >>= (λ e. Ok (period.Entry e))
period_of location calendars None (Some calendar) =
    calendar_at location calendars calendar >>= (λ id. Ok (period.Calendar id))
period_of location calendars (Some entry) (Some calendar) = Err (fault_at location key.Unknown UnknownKey)

abbrev pub period_in : Location → List NamedCalendar → Members → Result Period FileFault
period_in location calendars ms =
    period_of location calendars (get_member (key_text key.Entry) ms) (get_member (key_text key.Calendar) ms)

abbrev pub times_at : Location → List Kind → Members → Result (List TimeValue) FileFault
times_at location kinds ms = list_at location key.Times ms >>= list_of location key.Times kinds

-- the item as a table; that all are is seen before the first is read
abbrev pub fields_at : Location → Data → Result Members FileFault
fields_at location d = or_fault (fault_at location key.Exception WrongType) (as_table d)

unfoldable pub exception_in : Location → List NamedCalendar → List Kind → Data → Result Exception FileFault
exception_in location calendars kinds d = do
  ms ← fields_at location d
  allowed ← known_keys location exception_keys ms
  number ← required_at location key.Priority ms
  priority ← event_priority_in location key.Priority number
  days ← period_in location calendars ms
  times ← times_at location kinds ms
  Ok (record { period = days; event_priority = priority; times = times })

-- ---- what holds of an exception that was read

-- a calendar is one of the file
abbrev pub is_sound_period : List NamedCalendar → Period → Bool
is_sound_period calendars (period.Entry entry) = true
is_sound_period calendars (period.Calendar id) = nat_lt id.index (length calendars)

abbrev pub is_sound_exception : List NamedCalendar → List Kind → Exception → Bool
is_sound_exception calendars kinds exception = is_sound_period calendars exception.period
    && (is_priority exception.event_priority && is_list_within kinds exception.times)
