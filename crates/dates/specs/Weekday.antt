-- A weekday, and the weekdays that an entry names: one, or any.
use Rattle.std.specs.Prelude.{◌==◌, Bool, true, codes, Option, Some, None, option_map, if◌then◌else◌}
use Rattle.std.specs.Str.{bytes_eq}
use Rattle.jiff_core.specs.Date.{weekday_of}
use Rattle.jiff_core.specs.Weekday.{monday_zero}
use Rattle.jiff_core.specs.declared.civil.date.Date.{Date}
use Rattle.jiff_core.specs.declared.civil.weekday.Weekday.{Weekday}
use Rattle.jiff_core.specs.declared.civil.weekday.Weekday.TheVariants.{Monday, Tuesday, Wednesday, Thursday, Friday, Saturday, Sunday}
use Rattle.points.specs.Texts.{Text}

-- three letters
unfoldable pub weekday_at : Text → Option Weekday
weekday_at text =
    if bytes_eq text (codes "mon") then Some Monday
    else if bytes_eq text (codes "tue") then Some Tuesday
    else if bytes_eq text (codes "wed") then Some Wednesday
    else if bytes_eq text (codes "thu") then Some Thursday
    else if bytes_eq text (codes "fri") then Some Friday
    else if bytes_eq text (codes "sat") then Some Saturday
    else if bytes_eq text (codes "sun") then Some Sunday
    else None

abbrev pub weekday_text : Weekday → Text
weekday_text Monday = codes "mon"
weekday_text Tuesday = codes "tue"
weekday_text Wednesday = codes "wed"
weekday_text Thursday = codes "thu"
weekday_text Friday = codes "fri"
weekday_text Saturday = codes "sat"
weekday_text Sunday = codes "sun"

-- ---- one, or any

-- the days of these weekdays
abbrev pub in_weekdays : Option Weekday → Date → Bool
in_weekdays None day = true
in_weekdays (Some name) day = weekday_of day == monday_zero name

-- three letters, or any
unfoldable pub weekdays_at : Text → Option (Option Weekday)
weekdays_at text =
    if bytes_eq text (codes "*") then Some None else option_map Some (weekday_at text)

abbrev pub weekdays_text : Option Weekday → Text
weekdays_text None = codes "*"
weekdays_text (Some name) = weekday_text name
