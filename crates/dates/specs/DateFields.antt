-- The year, the month and the day of the month of a date, each as its field names it.
use Rattle.std.specs.Prelude.{ℕ, ◌++◌, codes, Option, is_some, Result, Ok, Err, if◌then◌else◌}
use Rattle.std.specs.Option.{ok_or}
use Rattle.jiff_core.specs.declared.civil.date.Date.{Date}
use Rattle.dates.specs.declared.date_fields.DateFields.{DateFields}
use Rattle.dates.specs.declared.months.Months.{Months}
use Rattle.dates.specs.declared.month_days.MonthDays.{MonthDays}
use Rattle.dates.specs.declared.entry_fault.EntryFault.{EntryFault}
use Rattle.dates.specs.declared.entry_fault.EntryFault.TheVariants as fault
use Rattle.dates.specs.Day.{day_of}
use Rattle.points.specs.FaultSteps.{◌>>=◌}
use Rattle.dates.specs.MonthDays.{one_month_day, month_days_at, month_days_text}
use Rattle.dates.specs.Months.{one_month, months_at, months_text}
use Rattle.dates.specs.Notation.{cut_at, parts_at}
use Rattle.points.specs.Texts.{Text}
use Rattle.dates.specs.Year.{years_at, years_text}

-- Y-M-D
unfoldable pub date_fields_at : Text → Result DateFields EntryFault
date_fields_at text = do
  parts ← ok_or (parts_at (codes "-") text) fault.Shape
  year ← ok_or (years_at parts.0) fault.Year
  months ← ok_or (months_at parts.1) fault.Month
  days ← ok_or (month_days_at parts.2) fault.Day
  Ok (record { year = year; months = months; days = days })

-- Y-M-D
abbrev pub date_fields_text : Option ℕ → Months → MonthDays → Text
date_fields_text years months days =
    years_text years ++ (codes "-" ++ (months_text months ++ (codes "-" ++ month_days_text days)))

-- the day that the fields name, where each is one number
unfoldable pub one_day : Option ℕ → Months → MonthDays → Result Date EntryFault
one_day years months days = do
  y ← ok_or years fault.HalfSpecified
  m ← ok_or (one_month months) fault.HalfSpecified
  d ← ok_or (one_month_day days) fault.HalfSpecified
  ok_or (day_of y m d) fault.Day

-- a day written whole
unfoldable pub full_date_at : Text → Result Date EntryFault
full_date_at text =
    if is_some (cut_at (codes "/") text) then Err fault.Shape
    else (date_fields_at text >>= λ date. one_day date.year date.months date.days)
