use Rattle.std.proofs.Common.{◌≡◌, map, take}
use Rattle.building.specs.declared.named_calendar.NamedCalendar.{NamedCalendar}
use Rattle.desk_adopt.proofs.sections.calendar_names.Given as goal

-- the names so far
abbrev pub invariant-loop-calendar : goal.invariant-loop-calendar
invariant-loop-calendar l = l.names.items ≡ map (λ (it : NamedCalendar). it.name) (take l.calendar-index l.building.calendars)
