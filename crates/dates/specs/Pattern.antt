-- A date pattern: the days that each of its four fields names.
use Rattle.std.specs.Prelude.{Bool, ◌&&◌, [], ◌++◌, codes, Option, Some, None, option_map, Result, Ok}
use Rattle.std.specs.Option.{ok_or, option_map_or}
use Rattle.jiff_core.specs.declared.civil.date.Date.{Date}
use Rattle.jiff_core.specs.declared.civil.weekday.Weekday.{Weekday}
use Rattle.dates.specs.declared.pattern.Pattern.{Pattern}
use Rattle.dates.specs.declared.entry_fault.EntryFault.{EntryFault}
use Rattle.dates.specs.declared.entry_fault.EntryFault.TheVariants as fault
use Rattle.dates.specs.DateFields.{date_fields_at, date_fields_text}
use Rattle.points.specs.FaultSteps.{◌>>=◌}
use Rattle.dates.specs.MonthDays.{AreMonthDays, in_month_days}
use Rattle.dates.specs.Months.{AreMonths, in_months}
use Rattle.dates.specs.Notation.{cut_at}
use Rattle.points.specs.Texts.{Text}
use Rattle.dates.specs.Weekday.{weekday_at, weekday_text, in_weekdays}
use Rattle.dates.specs.Year.{AreYears, in_years}

-- the numbers are in range
abbrev pub IsPattern : Pattern → Type 0
IsPattern pattern = AreYears pattern.year × AreMonths pattern.months × AreMonthDays pattern.days

-- the days that each field names
abbrev pub in_pattern : Pattern → Date → Bool
in_pattern pattern day =
    in_years pattern.year day && in_months pattern.months day && in_month_days pattern.days day
    && in_weekdays pattern.weekday day

-- a text before its first `/`, and what follows that, if it has one
unfoldable pub date_part : Text → Text
date_part text = option_map_or (λ cut. cut.0) (cut_at (codes "/") text) text

unfoldable pub weekday_part : Text → Option (Option Weekday)
weekday_part text =
    option_map_or (λ cut. option_map Some (weekday_at cut.1)) (cut_at (codes "/") text) (Some None)

-- Y-M-D or Y-M-D/W
unfoldable pub pattern_at : Text → Result Pattern EntryFault
pattern_at text = do
  date ← date_fields_at (date_part text)
  weekday ← ok_or (weekday_part text) fault.Weekday
  Ok (record { year = date.year; months = date.months; days = date.days; weekday = weekday })

-- any weekday is written by leaving it away
abbrev pub weekday_suffix : Option Weekday → Text
weekday_suffix None = []
weekday_suffix (Some name) = codes "/" ++ weekday_text name

-- Y-M-D or Y-M-D/W
abbrev pub pattern_text : Pattern → Text
pattern_text pattern = date_fields_text pattern.year pattern.months pattern.days ++ weekday_suffix pattern.weekday
