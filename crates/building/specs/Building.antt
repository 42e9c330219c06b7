-- A building, and what holds of one that was read.
use Rattle.std.specs.Prelude.{IsTrue, List, map}
use Rattle.std.specs.List.{list_all}
use Rattle.jiff_tz.specs.declared.timezone.TimeZone.{TimeZone}
use Rattle.building.specs.PanelTable.{is_sound_panel}
use Rattle.building.specs.PointTable.{is_sound_point}
use Rattle.points.specs.declared.Panel.{Panel}
use Rattle.points.specs.declared.Point.{Point}
use Rattle.building.specs.Roster.{are_distinct}
use Rattle.building.specs.declared.named_calendar.NamedCalendar.{NamedCalendar}
use Rattle.building.specs.declared.named_schedule.NamedSchedule.{NamedSchedule}
use Rattle.building.specs.ScheduleTable.{is_sound_schedule}
use Rattle.local_times.specs.ZoneRule.{rule_text}
use Rattle.building.specs.BuildingFile.{Contents}

-- the rule of its time zone, and its lists in file order
pub record Building : Type 0 where
  pub zone : TimeZone
  pub points : List Point
  pub panels : List Panel
  pub calendars : List NamedCalendar
  pub schedules : List NamedSchedule

-- the same, with what the rule of the time zone says
abbrev pub contents_of : Building → Contents
contents_of building = record {
  zone = rule_text building.zone;
  points = building.points;
  panels = building.panels;
  calendars = building.calendars;
  schedules = building.schedules;
}

-- no name stands twice in its section; defaults lie in their kinds; what panels and schedules name exists, and what a schedule may write lies in
-- the kind of each of its points; nothing is written at 6
pub record IsSound (points : List Point) (panels : List Panel) (calendars : List NamedCalendar) (schedules : List NamedSchedule) :
    Type 0 where
  pub distinct_points : IsTrue (are_distinct (map (λ (point : Point). point.name) points))
  pub distinct_panels : IsTrue (are_distinct (map (λ (panel : Panel). panel.name) panels))
  pub distinct_calendars : IsTrue (are_distinct (map (λ (calendar : NamedCalendar). calendar.name) calendars))
  pub distinct_schedules : IsTrue (are_distinct (map (λ (schedule : NamedSchedule). schedule.name) schedules))
  pub sound_points : IsTrue (list_all is_sound_point points)
  pub sound_panels : IsTrue (list_all (is_sound_panel points) panels)
  pub sound_schedules : IsTrue (list_all (is_sound_schedule points calendars) schedules)
