-- What put a value in a place, as a text.
use Rattle.std.specs.Prelude.{◌+◌, ℤ, ◌∷◌, ◌++◌, codes, slice_get, Option, Some, None}
use Rattle.std.specs.Fmt.{decimal, signed_decimal}
use Rattle.desk_why.specs.declared.author.Author.{Author}
use Rattle.desk_why.specs.declared.author.Author.TheVariants as by
use Rattle.desk_why.specs.declared.author.Settling.{Settling}
use Rattle.desk_why.specs.declared.author.Settling.TheVariants as at
use Rattle.building.specs.Building.{Building}
use Rattle.building.specs.declared.named_calendar.NamedCalendar.{NamedCalendar}
use Rattle.dates.specs.Day.{day_text}
use Rattle.dates.specs.Entry.{spelling}
use Rattle.points.specs.Texts.{Text}
use Rattle.local_times.specs.declared.local_clock.LocalTime.{LocalTime}
use Rattle.local_times.specs.LocalTimes.{local_at}
use Rattle.sched.specs.declared.calendar.CalId.{CalId}
use Rattle.sched.specs.declared.exception.Period.{Period}
use Rattle.sched.specs.declared.exception.Period.TheVariants as period
use Rattle.sched.specs.TimeText.{time_text}
use Rattle.sched.specs.declared.source.Source.{Source}
use Rattle.sched.specs.declared.source.Source.TheVariants as source
use Rattle.desk_why.specs.Words.{title_of}

-- what the building's clock shows at a moment; the moment itself, where it shows nothing
abbrev pub shown_text : ℤ → Option LocalTime → Text
shown_text moment None = signed_decimal moment
shown_text moment (Some local) = day_text local.day ++ (32 ∷ time_text local.time)

abbrev pub moment_text : Building → ℤ → Text
moment_text building moment = shown_text moment (local_at building.zone moment)

abbrev pub after_text : Building → Option ℤ → Text
after_text building None = codes "before any tick"
after_text building (Some moment) = codes "after the tick at " ++ moment_text building moment

abbrev pub settling_text : Building → Settling → Text
settling_text building (at.Tick moment) = codes "at the tick at " ++ moment_text building moment
settling_text building (at.Import last) = codes "at an import after the tick at " ++ moment_text building last

abbrev pub named_text : Option NamedCalendar → Text
named_text None = codes "a calendar"
named_text (Some calendar) = codes "calendar " ++ calendar.name

abbrev pub calendar_text : Building → CalId → Text
calendar_text building id = named_text (slice_get building.calendars id.index)

abbrev pub period_text : Building → Period → Text
period_text building (period.Entry entry) = spelling entry
period_text building (period.Calendar id) = calendar_text building id

-- exceptions are counted from 1
abbrev pub source_text : Building → Source → Text
source_text building (source.Exception index of) =
    codes "exception " ++ (decimal (index + 1) ++ (codes " (" ++ (period_text building of ++ codes ")")))
source_text building (source.Weekly day) = codes "weekly (" ++ (title_of day ++ codes ")")
source_text building source.Default = codes "its default"

abbrev pub author_text : Building → Author → Text
author_text building (by.Command panel number after) =
    codes "panel " ++ (panel ++ (codes " #" ++ (decimal number ++ (codes ", " ++ after_text building after))))
author_text building (by.Schedule schedule source settling) =
    codes "schedule " ++ (schedule ++ (codes ", " ++ (source_text building source ++ (codes ", " ++ settling_text building settling))))
author_text building by.BeforeRecord = codes "before the record"
