-- The days on which an import would change the values of a schedule.
use Rattle.std.specs.Prelude.{ℕ, zero, suc, ◌+◌, ◌==◌, nat_le, Bool, not, ◌&&◌, List, [], ◌∷◌, ◌++◌, map, filter, codes, slice_get, unwrap_or, if◌then◌else◌}
use Rattle.std.specs.Cmp.Lexicographic.{pointwise}
use Rattle.std.specs.List.{flat_map}
use Rattle.std.specs.Option.{option_map_or}
use Rattle.jiff_core.specs.Date.{weekday_of}
use Rattle.jiff_core.specs.declared.civil.date.Date.{Date}
use Rattle.dates.specs.Day.{day_of, day_text}
use Rattle.dates.specs.declared.entry.Entry.{Entry}
use Rattle.points.specs.Texts.{Text}
use Rattle.sched.specs.Schedule.{is_active, schedule_value}
use Rattle.sched.specs.Segments.{segments_of, value_eq}
use Rattle.sched.specs.declared.calendar.Calendar.{Calendar}
use Rattle.sched.specs.declared.calendar.CalendarEntry.{CalendarEntry}
use Rattle.sched.specs.declared.day_list.TimeValue.{TimeValue}
use Rattle.sched.specs.declared.schedule.Schedule.{Schedule}
use Rattle.building.specs.declared.named_calendar.NamedCalendar.{NamedCalendar}
use Rattle.building.specs.declared.named_schedule.NamedSchedule.{NamedSchedule}

-- ---- the calendars with rows

-- the entries of the rows for the calendar at an index
abbrev pub entries_for : ℕ → List CalendarEntry → List Entry
entries_for index rows = map (λ row. row.entry) (filter (λ row. row.calendar.index == index) rows)

-- the calendars with the entries of rows, where the first has this index
abbrev pub with_rows : List CalendarEntry → ℕ → List NamedCalendar → List Calendar
with_rows rows index [] = []
with_rows rows index (named ∷ rest) =
    record { entries = named.calendar.entries ++ entries_for index rows } ∷ with_rows rows (index + 1) rest

-- ---- a change

abbrev pub same_segment : TimeValue → TimeValue → Bool
same_segment x y = x.time == y.time && value_eq x.value y.value

abbrev pub segments_on : Date → Schedule → List Calendar → List TimeValue
segments_on day schedule calendars = segments_of (λ time. schedule_value schedule calendars day time)

-- the schedule is active on the day, whose segments differ
abbrev pub changes : List Calendar → List Calendar → Date → Schedule → Bool
changes before after day schedule =
    is_active schedule day && not (pointwise same_segment (segments_on day schedule before) (segments_on day schedule after))

-- from Monday on
abbrev pub weekday_names : List Text
weekday_names = codes "mon" ∷ codes "tue" ∷ codes "wed" ∷ codes "thu" ∷ codes "fri" ∷ codes "sat" ∷ codes "sun" ∷ []

abbrev pub weekday_name_of : Date → Text
weekday_name_of day = unwrap_or (slice_get weekday_names (weekday_of day)) []

abbrev pub change_line : Date → Text → Text
change_line day name = day_text day ++ (codes " " ++ (weekday_name_of day ++ (codes " " ++ (name ++ codes "\n"))))

abbrev pub change_hint : List Calendar → List Calendar → Date → NamedSchedule → Text
change_hint before after day schedule =
    if changes before after day schedule.schedule then change_line day schedule.name else []

-- each schedule that changes on a day
abbrev pub day_hints : List NamedCalendar → List NamedSchedule → List CalendarEntry → Date → Text
day_hints calendars schedules rows day =
    flat_map (change_hint (with_rows [] 0 calendars) (with_rows rows 0 calendars) day) schedules

-- ---- all days

-- a text of each number from the first on and before the end, in turn
unfoldable pub each_between : ℕ → ℕ → (ℕ → Text) → Text
each_between first zero text = []
each_between first (suc n) text = each_between first n text ++ (if nat_le first n then text n else [])

-- that of the day with these parts, if there is one
abbrev pub date_text : (Date → Text) → ℕ → ℕ → ℕ → Text
date_text text year month day = option_map_or text (day_of year month day) []

abbrev pub month_text : (Date → Text) → ℕ → ℕ → Text
month_text text year month = each_between 1 32 (date_text text year month)

abbrev pub year_text : (Date → Text) → ℕ → Text
year_text text year = each_between 1 13 (month_text text year)

-- the days of the local years 1970 to 2154
unfoldable pub days_text : (Date → Text) → Text
days_text text = each_between 1970 2155 (year_text text)

abbrev pub changes_text : List NamedCalendar → List NamedSchedule → List CalendarEntry → Text
changes_text calendars schedules rows = days_text (day_hints calendars schedules rows)
