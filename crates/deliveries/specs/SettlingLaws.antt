-- What settling leaves, in the words of its rule.
use Rattle.std.specs.Prelude.{◌≡◌, ℕ, ℤ, Bool, ◌&&◌, ◌==◌, if◌then◌else◌, List, [], ◌∷◌, Option, Some, None}
use Rattle.std.specs.FinMap.{get}
use Rattle.std.specs.List.{All, list_any}
use Rattle.std.specs.Str.{bytes_eq}
use Rattle.building.specs.Building.{Building}
use Rattle.building.specs.declared.named_schedule.NamedSchedule.{NamedSchedule}
use Rattle.deliveries.specs.Laws.{HasDistinctSchedules, shown_after}
use Rattle.deliveries.specs.Machine.{now_of}
use Rattle.local_times.specs.declared.local_clock.LocalTime.{LocalTime}
use Rattle.points.specs.PriorityArray.{Places}
use Rattle.desk_settling.specs.Settled.{Now, Shown, falls_quiet, is_active_now, is_due, releases, value_of, written}
use Rattle.store.specs.Change.{with_each, with_place}
use Rattle.points.specs.Texts.{Text}

-- a schedule writes at a point's place
abbrev pub targets : Text → ℕ → NamedSchedule → Bool
targets point priority schedule = schedule.priority == priority && list_any (λ target. bytes_eq target point) schedule.targets

abbrev pub is_due_at : Now → Shown → Text → ℕ → NamedSchedule → Bool
is_due_at now shown point priority schedule = is_due now shown schedule && targets point priority schedule

-- one that falls quiet, and releases what it wrote
abbrev pub leaves_at : Now → Shown → Text → ℕ → NamedSchedule → Bool
leaves_at now shown point priority schedule =
    falls_quiet now shown schedule && (releases schedule.on_leave && targets point priority schedule)

abbrev pub or_else : Option NamedSchedule → Option NamedSchedule → Option NamedSchedule
or_else (Some schedule) other = Some schedule
or_else None other = other

-- the last of the schedules that passes a test
abbrev pub last_of : (NamedSchedule → Bool) → List NamedSchedule → Option NamedSchedule
last_of test [] = None
last_of test (schedule ∷ schedules) = or_else (last_of test schedules) (if test schedule then Some schedule else None)

-- the value of a schedule, where there is one
abbrev pub value_or : Now → Option NamedSchedule → Option ℤ → Option ℤ
value_or now None held = held
value_or now (Some schedule) held = value_of now schedule

-- what a place holds afterwards: the value of the last due schedule that targets it; else nothing, where a leaving one
-- does; else what it held
abbrev pub held_after : Now → Shown → List NamedSchedule → Text → ℕ → Option ℤ → Option ℤ
held_after now shown schedules point priority held =
    value_or now (last_of (is_due_at now shown point priority) schedules)
    (if list_any (leaves_at now shown point priority) schedules then None else held)

abbrev pub EachPlaceHolds : Type 0
EachPlaceHolds = (now : Now) (shown : Shown) (schedules : List NamedSchedule) (places : Text → Places) (point : Text) (priority : ℕ)
    → get (with_each with_place (written now shown schedules) places point) priority
    ≡ held_after now shown schedules point priority (get (places point) priority)

-- an active schedule shows its value, another one nothing
abbrev pub shown_now : Now → NamedSchedule → Option (Option ℤ)
shown_now now schedule = if is_active_now now schedule then Some (value_of now schedule) else None

abbrev pub EachScheduleShows : Type 0
EachScheduleShows = (building : Building) (imported : Text → List Text) (shown : Shown) (local : LocalTime) → HasDistinctSchedules building
    → All (λ (schedule : NamedSchedule). shown_after building imported shown (Some local) schedule.name
    ≡ shown_now (now_of building imported local) schedule) building.schedules
