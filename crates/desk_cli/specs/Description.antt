-- A building as one JSON object: what each thing is called, and what it may be, write or be written by.
use Rattle.std.specs.Prelude.{ℕ, ℤ, List, ◌++◌, codes, map, Option, Some, None}
use Rattle.building.specs.BuildingFile.{Contents}
use Rattle.building.specs.declared.named_calendar.NamedCalendar.{NamedCalendar}
use Rattle.building.specs.declared.named_schedule.NamedSchedule.{NamedSchedule}
use Rattle.building.specs.declared.named_schedule.OnLeave.{OnLeave}
use Rattle.building.specs.declared.named_schedule.OnLeave.TheVariants.{Release, Stay}
use Rattle.dates.specs.Entry.{spelling}
use Rattle.dates.specs.declared.entry.Entry.TheVariants.{Range}
use Rattle.points.specs.declared.kind.Kind.{Kind}
use Rattle.points.specs.declared.kind.Kind.TheVariants.{Analog, Binary, Multistate}
use Rattle.points.specs.declared.Panel.{Panel}
use Rattle.points.specs.declared.Point.{Point}
use Rattle.serde_json.specs.Data.{Data, array, member, no_members, null, number, object, string, unsigned}
use Rattle.serde_json.specs.Find.{of_integer}
use Rattle.serde_json.specs.View.{items_of}
use Rattle.serde_json.specs.Written.{compact_text}

-- a list, and the value of each of its items
abbrev pub array_of : {A : Type 0} → (A → Data) → List A → Data
array_of json items = array (items_of (map json items))

abbrev pub integer : ℤ → Data
integer n = number (of_integer n)

abbrev pub priority_data : ℕ → Data
priority_data priority = number (unsigned priority)

-- a point's kind in the words of a building file, with its states or its limits
abbrev pub of_kind : Kind → List ℕ → ℤ → Data
of_kind Binary name default = object (member (codes "default") (integer default) (member (codes "kind") (string (codes "binary"))
    (member (codes "name") (string name) no_members)))
of_kind (Multistate states) name default = object (member (codes "default") (integer default)
    (member (codes "kind") (string (codes "multi")) (member (codes "name") (string name)
    (member (codes "states") (integer states) no_members))))
of_kind (Analog low high) name default = object (member (codes "default") (integer default) (member (codes "high") (integer high)
    (member (codes "kind") (string (codes "analog")) (member (codes "low") (integer low)
    (member (codes "name") (string name) no_members)))))

abbrev pub point_data : Point → Data
point_data point = of_kind point.kind point.name point.relinquish_default

-- a panel with the points and the priorities that are granted to it
abbrev pub panel_data : Panel → Data
panel_data panel = object (member (codes "name") (string panel.name) (member (codes "points") (array_of string panel.points)
    (member (codes "priorities") (array_of priority_data panel.priorities) no_members)))

abbrev pub calendar_data : NamedCalendar → Data
calendar_data calendar = string calendar.name

abbrev pub on_leave_text : OnLeave → List ℕ
on_leave_text Stay = codes "stay"
on_leave_text Release = codes "release"

-- a schedule: its effective period in the notation of entries, and where and at which priority it writes
abbrev pub schedule_data : NamedSchedule → Data
schedule_data schedule = object (member (codes "name") (string schedule.name)
    (member (codes "on_leave") (string (on_leave_text schedule.on_leave))
    (member (codes "period") (string (spelling (Range schedule.schedule.effective_period)))
    (member (codes "priority") (priority_data schedule.priority)
    (member (codes "targets") (array_of string schedule.targets) no_members)))))

abbrev pub zone_data : Option (List ℕ) → Data
zone_data None = null
zone_data (Some text) = string text

-- the lists in file order
unfoldable pub description : Option (List ℕ) → Contents → Data
description zone contents = object (member (codes "calendars") (array_of calendar_data contents.calendars)
    (member (codes "panels") (array_of panel_data contents.panels) (member (codes "points") (array_of point_data contents.points)
    (member (codes "schedules") (array_of schedule_data contents.schedules) (member (codes "zone") (zone_data zone) no_members)))))

-- its text without space, and LF
unfoldable pub description_line : Option (List ℕ) → Contents → List ℕ
description_line zone contents = compact_text (description zone contents) ++ codes "\n"
