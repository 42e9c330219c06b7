-- What a place holds, and what put it there, once the schedules have settled.
use Rattle.std.specs.Prelude.{ℕ, if◌then◌else◌, List, Option, Some, None, option_map}
use Rattle.std.specs.List.{list_any}
use Rattle.building.specs.Building.{Building}
use Rattle.building.specs.declared.named_schedule.NamedSchedule.{NamedSchedule}
use Rattle.deliveries.specs.Machine.{now_of}
use Rattle.local_times.specs.declared.local_clock.LocalTime.{LocalTime}
use Rattle.desk_settling.specs.Settled.{Now, Shown, value_of}
use Rattle.deliveries.specs.SettlingLaws.{is_due_at, last_of, leaves_at}
use Rattle.points.specs.Texts.{Text}
use Rattle.sched.specs.Sources.{source_of}
use Rattle.desk_why.specs.declared.author.Held.{Held}
use Rattle.desk_why.specs.declared.author.Author.TheVariants as by
use Rattle.desk_why.specs.declared.author.Settling.{Settling}

-- what a due schedule puts: its value, unless that is NULL
abbrev pub held_by_schedule : Now → Settling → NamedSchedule → Option Held
held_by_schedule now settling schedule = option_map
    (λ value. record {
      value = value;
      author = by.Schedule schedule.name (source_of schedule.schedule now.calendars now.day now.time) settling;
    })
    (value_of now schedule)

abbrev pub held_or : Now → Settling → Option NamedSchedule → Option Held → Option Held
held_or now settling None held = held
held_or now settling (Some schedule) held = held_by_schedule now settling schedule

-- what the last due schedule in file order that targets the place puts there; else nothing, where a leaving one targets
-- it; else what it held
abbrev pub held_after_settling : Now → Shown → Settling → List NamedSchedule → Text → ℕ → Option Held → Option Held
held_after_settling now shown settling schedules point priority held =
    held_or now settling (last_of (is_due_at now shown point priority) schedules)
    (if list_any (leaves_at now shown point priority) schedules then None else held)

-- the same at a local day and time; at none, what it held
abbrev pub held_at : Building → (Text → List Text) → Shown → Settling → Option LocalTime → Text → ℕ → Option Held → Option Held
held_at building imported shown settling None point priority held = held
held_at building imported shown settling (Some local) point priority held =
    held_after_settling (now_of building imported local) shown settling building.schedules point priority held
