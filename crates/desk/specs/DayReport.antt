-- The report of a day: when each schedule has which value, and how each point is now.
use Rattle.std.specs.Prelude.{List, ◌++◌}
use Rattle.std.specs.List.{flat_map}
use Rattle.building.specs.Building.{Building}
use Rattle.jiff_core.specs.declared.civil.date.Date.{Date}
use Rattle.points.specs.PointLine.{point_line}
use Rattle.points.specs.declared.point.Point.{Point}
use Rattle.points.specs.PriorityArray.{Places, present_of}
use Rattle.desk_settling.specs.Calendars.{calendars_of}
use Rattle.points.specs.Texts.{Text}
use Rattle.desk.specs.ReportLines.{day_line, schedule_lines}

unfoldable pub line_of_point : (Text → Places) → Point → Text
line_of_point places point =
    let present = present_of (places point.name) point.relinquish_default in point_line point.name present.0 present.1

-- over what is imported and what the places hold
abbrev pub report_text : Building → (Text → List Text) → (Text → Places) → Date → Text
report_text building imported places day =
    day_line day ++ (flat_map (schedule_lines (calendars_of building imported) day) building.schedules
    ++ flat_map (line_of_point places) building.points)
