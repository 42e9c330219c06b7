use Rattle.std.proofs.Common.{◌≡◌, ◌++◌, string_bytes}
use Rattle.building_hints.specs.ChangedDays.{year_text, day_hints, each_between}
use Rattle.building_hints.proofs.changed_days.push_years.Given as goal

-- the hints so far
abbrev pub invariant-loop-year : goal.invariant-loop-year
invariant-loop-year l = string_bytes l.text ≡ string_bytes l.initial.text ++ each_between 1970 l.year
    (year_text (day_hints l.import.building.now.calendars l.import.building.now.schedules l.import.rows.now))
