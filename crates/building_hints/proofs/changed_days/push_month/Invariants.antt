use Rattle.std.proofs.Common.{◌≡◌, ◌++◌, string_bytes}
use Rattle.building_hints.specs.ChangedDays.{date_text, day_hints, each_between}
use Rattle.building_hints.proofs.changed_days.push_month.Given as goal

-- the hints so far
abbrev pub invariant-loop-day : goal.invariant-loop-day
invariant-loop-day l = string_bytes l.text ≡ string_bytes l.initial.text ++ each_between 1 l.day
    (date_text (day_hints l.import.building.now.calendars l.import.building.now.schedules l.import.rows.now) l.year l.month)
