-- What is kept of the schedules between the ticks of a day.
use Rattle.std.specs.Prelude.{◌≡◌, ℕ, ◌≤◌, Bool, List, slice_get, Option, Some, None, if◌then◌else◌, ℤ}
use Rattle.building.specs.Building.{Building}
use Rattle.building.specs.declared.named_schedule.NamedSchedule.{NamedSchedule}
use Rattle.jiff_core.specs.declared.civil.date.Date.{Date}
use Rattle.sched.specs.declared.calendar.Calendar.{Calendar}
use Rattle.sched.specs.declared.schedule.Schedule.{Schedule}
use Rattle.sched.specs.Schedule.{schedule_value}
use Rattle.desk_settling.specs.declared.kept.Kept.{Kept}
use Rattle.desk_settling.specs.declared.kept.KeptDay.{KeptDay}
use Rattle.desk_settling.specs.declared.kept.KeptSpan.{KeptSpan}
use Rattle.desk_settling.specs.Calendars.{Tells, calendars_of}
use Rattle.sched.specs.Calendar.{hold_on}
use Rattle.desk_settling.specs.Settled.{Now, is_active_now, value_of}
use Rattle.points.specs.Texts.{Text}

-- at each time of the span the schedule has the value
abbrev pub Stands : List Calendar → Date → Schedule → KeptSpan → Type 0
Stands calendars day schedule kept =
    (time : ℕ) → kept.span.first ≤ time → time ≤ kept.span.last → schedule_value schedule calendars day time ≡ kept.value

-- each span that is kept stands, at the index of its schedule
abbrev pub EachStands : List Calendar → Date → List NamedSchedule → List (Option KeptSpan) → Type 0
EachStands calendars day schedules spans = (index : ℕ) (schedule : NamedSchedule) (kept : KeptSpan)
    → slice_get schedules index ≡ Some schedule → slice_get spans index ≡ Some (Some kept) → Stands calendars day schedule.schedule kept

-- the spans of a day stand, over the calendars that are kept of it
abbrev pub HasSpans : List NamedSchedule → KeptDay → Type 0
HasSpans schedules day = EachStands day.calendars.items day.day schedules day.spans.items

-- of the day that is kept, if one is, each span stands
abbrev pub AreSpans : Building → Kept → Type 0
AreSpans building kept = (day : KeptDay) → kept.day ≡ Some day → HasSpans building.schedules day

-- and the calendars that hold on it are those of the building with what is imported
abbrev pub AreToday : Building → (Text → Text → Bool) → Kept → Type 0
AreToday building table kept = (day : KeptDay) (imported : Text → List Text) → kept.day ≡ Some day → Tells table imported
    → hold_on day.day day.calendars.items ≡ hold_on day.day (calendars_of building imported)

-- the value of a schedule that is active
abbrev pub current_of : Now → NamedSchedule → Option (Option ℤ)
current_of now schedule = if is_active_now now schedule then Some (value_of now schedule) else None
