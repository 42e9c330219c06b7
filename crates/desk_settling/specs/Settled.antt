-- What the schedules of a building write at a moment (12.24, in this profile).
use Rattle.std.specs.Prelude.{ℕ, ℤ, Bool, true, false, not, ◌&&◌, if◌then◌else◌, List, [], ◌∷◌, ◌++◌, map, Option, Some, None, is_some}
use Rattle.std.specs.List.{flat_map}
use Rattle.std.specs.Option.{option_eq}
use Rattle.std.specs.Ordering.{int_eq}
use Rattle.jiff_core.specs.declared.civil.date.Date.{Date}
use Rattle.sched.specs.declared.calendar.Calendar.{Calendar}
use Rattle.sched.specs.Schedule.{is_active, schedule_value}
use Rattle.building.specs.declared.named_schedule.NamedSchedule.{NamedSchedule}
use Rattle.building.specs.declared.named_schedule.OnLeave.{OnLeave}
use Rattle.building.specs.declared.named_schedule.OnLeave.TheVariants.{Release, Stay}
use Rattle.store.specs.declared.change.PlaceValue.{PlaceValue}
use Rattle.store.specs.declared.change.ShownValue.{ShownValue}
use Rattle.points.specs.Texts.{Text}

-- what a schedule's value depends on: the calendars, and the local day and time
pub record Now : Type 0 where
  pub calendars : List Calendar
  pub day : Date
  pub time : ℕ

-- what each schedule shows: a value or NULL, or nothing where it is quiet
abbrev pub Shown : Type 0
Shown = Text → Option (Option ℤ)

abbrev pub value_of : Now → NamedSchedule → Option ℤ
value_of now schedule = schedule_value schedule.schedule now.calendars now.day now.time

abbrev pub is_active_now : Now → NamedSchedule → Bool
is_active_now now schedule = is_active schedule.schedule now.day

-- it shows this value
abbrev pub shows : Option (Option ℤ) → Option ℤ → Bool
shows shown value = option_eq (option_eq int_eq) shown (Some value)

-- due: active, and does not show its value
unfoldable pub is_due : Now → Shown → NamedSchedule → Bool
is_due now shown schedule = is_active_now now schedule && not (shows (shown schedule.name) (value_of now schedule))

-- falls quiet: not active, and shows something
unfoldable pub falls_quiet : Now → Shown → NamedSchedule → Bool
falls_quiet now shown schedule = not (is_active_now now schedule) && is_some (shown schedule.name)

abbrev pub releases : OnLeave → Bool
releases Stay = false
releases Release = true

-- a value, or NULL, in the place of each target
abbrev pub at_each_target : Option ℤ → NamedSchedule → List PlaceValue
at_each_target value schedule = map (λ point. record { point = point; priority = schedule.priority; value = value }) schedule.targets

-- one that falls quiet is leaving where it releases its places: they are cleared
abbrev pub when_leaving : NamedSchedule → List PlaceValue
when_leaving schedule = if releases schedule.on_leave then at_each_target None schedule else []

abbrev pub cleared_by : Now → Shown → NamedSchedule → List PlaceValue
cleared_by now shown schedule = if falls_quiet now shown schedule then when_leaving schedule else []

abbrev pub put_by : Now → Shown → NamedSchedule → List PlaceValue
put_by now shown schedule = if is_due now shown schedule then at_each_target (value_of now schedule) schedule else []

-- what is written: the leaving ones clear their places, and after that each due one puts its value, in file
-- order. So of several due ones on one place the last counts, and a leaving one clears only what none of
-- them writes.
unfoldable pub written : Now → Shown → List NamedSchedule → List PlaceValue
written now shown schedules = flat_map (cleared_by now shown) schedules ++ flat_map (put_by now shown) schedules

-- what changes of what is shown: a due one shows its value, and one that falls quiet nothing
abbrev pub shown_by : Now → Shown → NamedSchedule → List ShownValue
shown_by now shown schedule =
    if is_due now shown schedule then record { schedule = schedule.name; shown = Some (value_of now schedule) } ∷ []
    else (if falls_quiet now shown schedule then record { schedule = schedule.name; shown = None } ∷ [] else [])

unfoldable pub changes_shown : Now → Shown → List NamedSchedule → List ShownValue
changes_shown now shown schedules = flat_map (shown_by now shown) schedules
