-- Which days belong to a calendar: each day on which one of its entries holds.
use Rattle.std.specs.Prelude.{Bool, List, map}
use Rattle.std.specs.List.{list_any}
use Rattle.jiff_core.specs.declared.civil.date.Date.{Date}
use Rattle.dates.specs.Entry.{holds_on}
use Rattle.sched.specs.declared.calendar.Calendar.{Calendar}

-- a calendar holds on the days of its entries, all together
abbrev pub calendar_holds : Calendar → Date → Bool
calendar_holds calendar day = list_any (λ entry. holds_on entry day) calendar.entries

-- which of these calendars hold on a day
abbrev pub hold_on : Date → List Calendar → List Bool
hold_on day calendars = map (λ calendar. calendar_holds calendar day) calendars
