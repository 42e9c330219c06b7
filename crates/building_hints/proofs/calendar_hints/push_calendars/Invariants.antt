use Rattle.std.proofs.Common.{◌≡◌, ◌++◌, drop, string_bytes}
use Rattle.building_hints.specs.HintLines.{calendar_hints, numbered}
use Rattle.building_hints.proofs.calendar_hints.push_calendars.Given as goal

-- the hints so far
abbrev pub invariant-loop-index : goal.invariant-loop-index
invariant-loop-index l = string_bytes l.text ++ numbered (calendar_hints l.schedules) l.index (drop l.index l.calendars)
    ≡ string_bytes l.initial.text ++ numbered (calendar_hints l.schedules) 0 l.calendars
