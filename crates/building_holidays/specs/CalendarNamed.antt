-- The calendar that a text names.
use Rattle.std.specs.Prelude.{ℕ, List, position, Option, Some}
use Rattle.std.specs.Str.{bytes_eq}
use Rattle.sched.specs.declared.calendar.CalId.{CalId}
use Rattle.building.specs.declared.named_calendar.NamedCalendar.{NamedCalendar}
use Rattle.points.specs.Steps.{◌>>=◌}
use Rattle.points.specs.Texts.{name_of}

-- the first calendar of the name that a text is
abbrev pub calendar_of : List NamedCalendar → List ℕ → Option CalId
calendar_of calendars text = do
  name ← name_of text
  index ← position (λ calendar. bytes_eq calendar.name name) calendars
  Some (record { index = index })
