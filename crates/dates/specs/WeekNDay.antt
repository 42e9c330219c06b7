-- A week-and-day: the days of a weekday in a week of a month.
use Rattle.std.specs.Prelude.{Bool, ◌&&◌, ◌++◌, codes, Result, Ok}
use Rattle.std.specs.Option.{ok_or}
use Rattle.jiff_core.specs.declared.civil.date.Date.{Date}
use Rattle.dates.specs.declared.week_n_day.WeekNDay.{WeekNDay}
use Rattle.dates.specs.declared.entry_fault.EntryFault.{EntryFault}
use Rattle.dates.specs.declared.entry_fault.EntryFault.TheVariants as fault
use Rattle.points.specs.FaultSteps.{◌>>=◌}
use Rattle.dates.specs.Months.{AreMonths, in_months, months_at, months_text}
use Rattle.dates.specs.Notation.{parts_at}
use Rattle.points.specs.Texts.{Text}
use Rattle.dates.specs.Week.{in_weeks, weeks_at, weeks_text}
use Rattle.dates.specs.Weekday.{in_weekdays, weekdays_at, weekdays_text}

-- the numbers are in range
abbrev pub IsWeekNDay : WeekNDay → Type 0
IsWeekNDay w = AreMonths w.months

-- the days that each field names
abbrev pub in_week_n_day : WeekNDay → Date → Bool
in_week_n_day w day = in_months w.months day && in_weeks w.week day && in_weekdays w.weekday day

-- M:K:W
unfoldable pub week_n_day_at : Text → Result WeekNDay EntryFault
week_n_day_at text = do
  parts ← ok_or (parts_at (codes ":") text) fault.Shape
  months ← ok_or (months_at parts.0) fault.Month
  week ← ok_or (weeks_at parts.1) fault.Week
  weekday ← ok_or (weekdays_at parts.2) fault.Weekday
  Ok (record { months = months; week = week; weekday = weekday })

-- wnd:M:K:W
abbrev pub week_n_day_text : WeekNDay → Text
week_n_day_text w =
    codes "wnd:" ++ (months_text w.months ++ (codes ":" ++ (weeks_text w.week
    ++ (codes ":" ++ weekdays_text w.weekday))))
