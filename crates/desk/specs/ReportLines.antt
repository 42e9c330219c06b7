-- The lines of a report. Each ends by LF.
use Rattle.std.specs.Prelude.{ℤ, Bool, true, false, List, [], ◌∷◌, ◌++◌, codes, slice_get, unwrap_or, Option, Some, None}
use Rattle.std.specs.Fmt.{signed_decimal}
use Rattle.std.specs.List.{flat_map}
use Rattle.dates.specs.Day.{day_text}
use Rattle.points.specs.Texts.{Text}
use Rattle.jiff_core.specs.Date.{weekday_of}
use Rattle.jiff_core.specs.declared.civil.date.Date.{Date}
use Rattle.points.specs.PointLine.{right_in}
use Rattle.sched.specs.declared.calendar.Calendar.{Calendar}
use Rattle.sched.specs.declared.day_list.TimeValue.{TimeValue}
use Rattle.sched.specs.Schedule.{is_active, schedule_value}
use Rattle.sched.specs.Segments.{segments_of}
use Rattle.sched.specs.TimeText.{time_text}
use Rattle.building.specs.declared.named_schedule.NamedSchedule.{NamedSchedule}

-- from Monday on
abbrev pub weekday_names : List Text
weekday_names = codes "mon" ∷ codes "tue" ∷ codes "wed" ∷ codes "thu" ∷ codes "fri" ∷ codes "sat" ∷ codes "sun" ∷ []

abbrev pub day_line : Date → Text
day_line day = codes "DAY " ++ (day_text day ++ (32 ∷ (unwrap_or (slice_get weekday_names (weekday_of day)) [] ++ 10 ∷ [])))

abbrev pub activity : Bool → Text
activity true = codes "active"
activity false = codes "quiet"

abbrev pub schedule_line : Date → NamedSchedule → Text
schedule_line day schedule = codes "SCHEDULE " ++ (schedule.name ++ (32 ∷ (activity (is_active schedule.schedule day) ++ 10 ∷ [])))

abbrev pub value_text : Option ℤ → Text
value_text None = codes "NULL"
value_text (Some value) = signed_decimal value

-- the time, and the value from there on in 12 places
unfoldable pub segment_line : TimeValue → Text
segment_line segment = time_text segment.time ++ (32 ∷ (right_in 12 (value_text segment.value) ++ 10 ∷ []))

-- a schedule, and the segments of its day, whether it is active or not
unfoldable pub schedule_lines : List Calendar → Date → NamedSchedule → Text
schedule_lines calendars day schedule =
    schedule_line day schedule ++ flat_map segment_line (segments_of (λ time. schedule_value schedule.schedule calendars day time))
