-- The schedule that a `[[schedule]]` table names, beside the points and the calendars.
use Rattle.std.specs.Prelude.{ℕ, Bool, ◌&&◌, List, [], Option, Some, None, Result, Ok, Err, codes, if◌then◌else◌}
use Rattle.std.specs.List.{list_all}
use Rattle.std.specs.Str.{bytes_eq}
use Rattle.toml.specs.Data.{Members}
use Rattle.building.specs.declared.cause.Cause.TheVariants.{WrongType}
use Rattle.building.specs.declared.file_fault.FileFault.{FileFault}
use Rattle.building.specs.declared.key.Key.TheVariants as key
use Rattle.building.specs.declared.location.Location.{Location}
use Rattle.building.specs.FaultAt.{fault_at}
use Rattle.points.specs.FaultSteps.{◌>>=◌}
use Rattle.dates.specs.declared.range.Range.{Range}
use Rattle.building.specs.Reference.{each_reference, is_named}
use Rattle.points.specs.declared.Point.{Point}
use Rattle.building.specs.declared.day_values.DayValues.{DayValues}
use Rattle.building.specs.declared.named_calendar.NamedCalendar.{NamedCalendar}
use Rattle.building.specs.declared.named_schedule.NamedSchedule.{NamedSchedule}
use Rattle.building.specs.declared.named_schedule.OnLeave.{OnLeave}
use Rattle.building.specs.declared.named_schedule.OnLeave.TheVariants.{Release, Stay}
use Rattle.building.specs.DayValues.{are_sound, day_values_in}
use Rattle.building.specs.EntryText.{range_in}
use Rattle.building.specs.Kinds.{kinds_of}
use Rattle.building.specs.Fields.{list_at, optional_text_at, required_at}
use Rattle.building.specs.Items.{at_most}
use Rattle.building.specs.Priority.{write_priority_in}
use Rattle.points.specs.Priority.{is_write_priority}

-- a range; all days where the key is missing
abbrev pub period_of : Location → List ℕ → Result Range FileFault
period_of location text = range_in location key.Period text

abbrev pub period_or_all : Location → Option (List ℕ) → Result Range FileFault
period_or_all location None = Ok (record { start = None; end = None })
period_or_all location (Some text) = period_of location text

abbrev pub period_at : Location → Members → Result Range FileFault
period_at location ms = optional_text_at location key.Period ms >>= period_or_all location

abbrev pub priority_at : Location → Members → Result ℕ FileFault
priority_at location ms = required_at location key.Priority ms >>= write_priority_in location key.Priority

-- at most 100 points of the file, each once
abbrev pub targets_at : List Point → Location → Members → Result (List (List ℕ)) FileFault
targets_at points location ms = do
  listed ← list_at location key.Targets ms
  few ← at_most 100 location key.Targets listed
  each_reference location key.Targets (λ point. point.name) points [] listed

-- `"stay"` or `"release"`; another text is B4
abbrev pub leave_of : Location → List ℕ → Result OnLeave FileFault
leave_of location text =
    if bytes_eq text (codes "stay") then Ok Stay
    else (if bytes_eq text (codes "release") then Ok Release
    else Err (fault_at location key.OnLeave WrongType))

abbrev pub leave_or_stay : Location → Option (List ℕ) → Result OnLeave FileFault
leave_or_stay location None = Ok Stay
leave_or_stay location (Some text) = leave_of location text

abbrev pub leave_in : Location → Members → Result OnLeave FileFault
leave_in location ms = optional_text_at location key.OnLeave ms >>= leave_or_stay location

-- the schedule of a name
unfoldable pub schedule_in : List Point → List NamedCalendar → Location → List ℕ → Members → Result NamedSchedule FileFault
schedule_in points calendars location name ms = do
  period ← period_at location ms
  priority ← priority_at location ms
  targets ← targets_at points location ms
  values ← day_values_in location calendars (kinds_of points targets) ms
  leave ← leave_in location ms
  Ok (record {
    name = name;
    priority = priority;
    targets = targets;
    on_leave = leave;
    schedule = record {
      effective_period = period;
      weekly = values.weekly;
      exceptions = values.exceptions;
      default = values.default;
    };
  })

-- ---- what holds of a schedule that was read

-- what the schedule says of each day
abbrev pub values_of : NamedSchedule → DayValues
values_of s = record { default = s.schedule.default; weekly = s.schedule.weekly; exceptions = s.schedule.exceptions }

-- its points exist, no write is at 6, and its values lie in the kind of each of its points
abbrev pub is_sound_schedule : List Point → List NamedCalendar → NamedSchedule → Bool
is_sound_schedule points calendars s =
    (is_write_priority s.priority && list_all (is_named (λ (point : Point). point.name) points) s.targets)
    && are_sound calendars (kinds_of points s.targets) (values_of s)
