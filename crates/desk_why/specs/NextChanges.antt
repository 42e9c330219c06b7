-- When the schedules that target a point change next, on the local day of the last tick.
use Rattle.std.specs.Prelude.{Bool, if◌then◌else◌, List, [], Option, Some, None, option_map}
use Rattle.std.specs.List.{filter_map, list_any}
use Rattle.std.specs.Str.{bytes_eq}
use Rattle.building.specs.Building.{Building}
use Rattle.building.specs.declared.named_schedule.NamedSchedule.{NamedSchedule}
use Rattle.deliveries.specs.declared.delivery.Delivery.{Delivery}
use Rattle.deliveries.specs.Events.{machine}
use Rattle.deliveries.specs.Machine.{local_of, now_of}
use Rattle.local_times.specs.declared.local_clock.LocalTime.{LocalTime}
use Rattle.desk_settling.specs.Settled.{Now}
use Rattle.points.specs.Texts.{Text}
use Rattle.sched.specs.NextChange.{next_change}
use Rattle.desk_why.specs.declared.scheduled.ScheduledChange.{ScheduledChange}

-- a schedule writes to the point, at whatever priority
abbrev pub targets_point : Text → NamedSchedule → Bool
targets_point point schedule = list_any (λ target. bytes_eq target point) schedule.targets

-- the next change of a schedule, under its name
abbrev pub change_of : Now → NamedSchedule → Option ScheduledChange
change_of now schedule = option_map
    (λ change. record { schedule = schedule.name; change = change })
    (next_change schedule.schedule now.calendars now.day now.time)

-- the same of one that targets the point; of another one nothing
abbrev pub change_at : Now → Text → NamedSchedule → Option ScheduledChange
change_at now point schedule = if targets_point point schedule then change_of now schedule else None

-- one for each schedule that has one, in the order of the file; at no local time none
abbrev pub changes_at : Building → (Text → List Text) → Option LocalTime → Text → List ScheduledChange
changes_at building imported None point = []
changes_at building imported (Some local) point = filter_map (change_at (now_of building imported local) point) building.schedules

-- after a list of deliveries: after the time of its last tick, with what it has imported
unfoldable pub next_changes : Building → List Delivery → Text → List ScheduledChange
next_changes building deliveries point =
    let now = machine building deliveries in changes_at building now.imported (local_of building now.last_tick) point
