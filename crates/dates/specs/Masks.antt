-- Months, days of the month, weeks and weekdays as masks: a bit for each month, day, day left in the month and weekday.
use Rattle.std.specs.Prelude.{◌≡◌, ℕ, ◌/◌, ◌%◌, ◌^◌, ◌==◌, Bool, ◌&&◌, Option, Some, None, if◌then◌else◌}
use Rattle.std.specs.Int.{trailing_zeros, w32}
use Rattle.jiff_core.specs.Weekday.{monday_zero}
use Rattle.jiff_core.specs.declared.civil.date.Date.{Date}
use Rattle.jiff_core.specs.declared.civil.weekday.Weekday.{Weekday}
use Rattle.jiff_core.specs.declared.civil.weekday.Weekday.TheVariants.{Monday, Tuesday, Wednesday, Thursday, Friday, Saturday, Sunday}
use Rattle.dates.specs.declared.month_days.MonthDays.{MonthDays}
use Rattle.dates.specs.declared.month_days.MonthDays.TheVariants as month_day
use Rattle.dates.specs.declared.months.Months.{Months}
use Rattle.dates.specs.declared.months.Months.TheVariants as month
use Rattle.dates.specs.declared.week.Week.{Week}
use Rattle.dates.specs.declared.week.Week.TheVariants.{First, Second, Third, Fourth, Fifth, Last, SecondLast, ThirdLast, FourthLast}
use Rattle.dates.specs.Day.{days_left}
use Rattle.dates.specs.MonthDays.{AreMonthDays}
use Rattle.dates.specs.Months.{AreMonths}

-- a mask has the bit of a number
abbrev pub has_bit : ℕ → ℕ → Bool
has_bit mask number = mask / 2 ^ number % 2 == 1

-- one mask has the day of the month, and another the number of days left in it
abbrev pub has_both : ℕ → ℕ → Date → Bool
has_both days left day = has_bit days day.day && has_bit left (days_left day)

-- ---- months, the bits 1 to 12

abbrev pub month_mask : Months → ℕ
month_mask month.Any = 0x1ffe
month_mask month.Odd = 0x0aaa
month_mask month.Even = 0x1554
month_mask (month.One number) = 2 ^ number

-- what a mask names
abbrev pub months_of : ℕ → Months
months_of mask =
    if mask == 0x1ffe then month.Any
    else if mask == 0x0aaa then month.Odd
    else if mask == 0x1554 then month.Even
    else month.One (trailing_zeros w32 mask)

abbrev pub IsMonthMask : ℕ → Type 0
IsMonthMask mask = (month_mask (months_of mask) ≡ mask) × AreMonths (months_of mask)

-- ---- days of the month, the bits 1 to 31, and days left in it, the bits 0 to 30

abbrev pub any_day : ℕ
any_day = 0xffff_fffe

abbrev pub any_days_left : ℕ
any_days_left = 0x7fff_ffff

abbrev pub day_mask : MonthDays → ℕ
day_mask month_day.Any = any_day
day_mask month_day.Last = any_day
day_mask month_day.Odd = 0xaaaa_aaaa
day_mask month_day.Even = 0x5555_5554
day_mask (month_day.One number) = 2 ^ number

abbrev pub days_left_mask : MonthDays → ℕ
days_left_mask month_day.Last = 1
days_left_mask month_day.Any = any_days_left
days_left_mask month_day.Odd = any_days_left
days_left_mask month_day.Even = any_days_left
days_left_mask (month_day.One number) = any_days_left

abbrev pub month_days_of : ℕ → ℕ → MonthDays
month_days_of days days_left =
    if days_left == 1 then month_day.Last
    else if days == any_day then month_day.Any
    else if days == 0xaaaa_aaaa then month_day.Odd
    else if days == 0x5555_5554 then month_day.Even
    else month_day.One (trailing_zeros w32 days)

abbrev pub IsDayMask : ℕ → ℕ → Type 0
IsDayMask days days_left =
    (day_mask (month_days_of days days_left) ≡ days) × (days_left_mask (month_days_of days days_left) ≡ days_left)
    × AreMonthDays (month_days_of days days_left)

-- ---- weeks of the month, by the same bits

abbrev pub week_mask : Option Week → ℕ
week_mask None = any_day
week_mask (Some First) = 0xfe
week_mask (Some Second) = 0x7f00
week_mask (Some Third) = 0x3f_8000
week_mask (Some Fourth) = 0x1fc0_0000
week_mask (Some Fifth) = 0xe000_0000
week_mask (Some Last) = any_day
week_mask (Some SecondLast) = any_day
week_mask (Some ThirdLast) = any_day
week_mask (Some FourthLast) = any_day

abbrev pub weeks_left_mask : Option Week → ℕ
weeks_left_mask None = any_days_left
weeks_left_mask (Some First) = any_days_left
weeks_left_mask (Some Second) = any_days_left
weeks_left_mask (Some Third) = any_days_left
weeks_left_mask (Some Fourth) = any_days_left
weeks_left_mask (Some Fifth) = any_days_left
weeks_left_mask (Some Last) = 0x7f
weeks_left_mask (Some SecondLast) = 0x3f80
weeks_left_mask (Some ThirdLast) = 0x1f_c000
weeks_left_mask (Some FourthLast) = 0xfe0_0000

abbrev pub weeks_of : ℕ → ℕ → Option Week
weeks_of days days_left =
    if days_left == 0x7f then Some Last
    else if days_left == 0x3f80 then Some SecondLast
    else if days_left == 0x1f_c000 then Some ThirdLast
    else if days_left == 0xfe0_0000 then Some FourthLast
    else if days == 0xfe then Some First
    else if days == 0x7f00 then Some Second
    else if days == 0x3f_8000 then Some Third
    else if days == 0x1fc0_0000 then Some Fourth
    else if days == 0xe000_0000 then Some Fifth
    else None

abbrev pub IsWeekMask : ℕ → ℕ → Type 0
IsWeekMask days days_left =
    (week_mask (weeks_of days days_left) ≡ days) × (weeks_left_mask (weeks_of days days_left) ≡ days_left)

-- ---- weekdays, the bits 0 to 6, Monday's first

abbrev pub weekday_mask : Option Weekday → ℕ
weekday_mask None = 0x7f
weekday_mask (Some name) = 2 ^ monday_zero name

abbrev pub weekdays_of : ℕ → Option Weekday
weekdays_of mask =
    if mask == 1 then Some Monday
    else if mask == 2 then Some Tuesday
    else if mask == 4 then Some Wednesday
    else if mask == 8 then Some Thursday
    else if mask == 16 then Some Friday
    else if mask == 32 then Some Saturday
    else if mask == 64 then Some Sunday
    else None

abbrev pub IsWeekdayMask : ℕ → Type 0
IsWeekdayMask mask = weekday_mask (weekdays_of mask) ≡ mask
