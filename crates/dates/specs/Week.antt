-- A week of a month, and the weeks that a week-and-day names: one, or any.
use Rattle.std.specs.Prelude.{Bool, true, codes, Option, Some, None, option_map, if◌then◌else◌}
use Rattle.std.specs.Str.{bytes_eq}
use Rattle.jiff_core.specs.declared.civil.date.Date.{Date}
use Rattle.dates.specs.declared.week.Week.{Week}
use Rattle.dates.specs.declared.week.Week.TheVariants.{First, Second, Third, Fourth, Fifth, Last, SecondLast, ThirdLast, FourthLast}
use Rattle.dates.specs.Between.{is_between}
use Rattle.dates.specs.Day.{days_left}
use Rattle.points.specs.Texts.{Text}

-- weeks 1 to 5 are counted by the day of the month, weeks 6 to 9 by the days that follow in it
abbrev pub in_week : Week → Date → Bool
in_week First day = is_between 1 7 day.day
in_week Second day = is_between 8 14 day.day
in_week Third day = is_between 15 21 day.day
in_week Fourth day = is_between 22 28 day.day
in_week Fifth day = is_between 29 31 day.day
in_week Last day = is_between 0 6 (days_left day)
in_week SecondLast day = is_between 7 13 (days_left day)
in_week ThirdLast day = is_between 14 20 (days_left day)
in_week FourthLast day = is_between 21 27 (days_left day)

-- one digit
unfoldable pub week_at : Text → Option Week
week_at text =
    if bytes_eq text (codes "1") then Some First
    else if bytes_eq text (codes "2") then Some Second
    else if bytes_eq text (codes "3") then Some Third
    else if bytes_eq text (codes "4") then Some Fourth
    else if bytes_eq text (codes "5") then Some Fifth
    else if bytes_eq text (codes "6") then Some Last
    else if bytes_eq text (codes "7") then Some SecondLast
    else if bytes_eq text (codes "8") then Some ThirdLast
    else if bytes_eq text (codes "9") then Some FourthLast
    else None

abbrev pub week_text : Week → Text
week_text First = codes "1"
week_text Second = codes "2"
week_text Third = codes "3"
week_text Fourth = codes "4"
week_text Fifth = codes "5"
week_text Last = codes "6"
week_text SecondLast = codes "7"
week_text ThirdLast = codes "8"
week_text FourthLast = codes "9"

-- ---- one, or any

-- the days of these weeks
abbrev pub in_weeks : Option Week → Date → Bool
in_weeks None day = true
in_weeks (Some which) day = in_week which day

-- one digit, or any
unfoldable pub weeks_at : Text → Option (Option Week)
weeks_at text =
    if bytes_eq text (codes "*") then Some None else option_map Some (week_at text)

abbrev pub weeks_text : Option Week → Text
weeks_text None = codes "*"
weeks_text (Some which) = week_text which
