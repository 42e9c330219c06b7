-- The building that the bytes of a file name, or the first fault.
use Rattle.std.specs.Prelude.{ℕ, nat_le, List, [], ◌∷◌, length, Option, Result, Ok}
use Rattle.toml.specs.Data.{Items, Members}
use Rattle.toml.specs.Parse.{parse_document}
use Rattle.jiff_tz.specs.PosixText.{TzText}
use Rattle.building.specs.declared.cause.Cause.TheVariants.{BeyondLimit, NotToml}
use Rattle.building.specs.declared.file_fault.FileFault.{FileFault}
use Rattle.building.specs.declared.key.Key.{Key}
use Rattle.building.specs.declared.key.Key.TheVariants as key
use Rattle.building.specs.declared.section.Section.TheVariants as section
use Rattle.building.specs.FaultAt.{fault_at}
use Rattle.points.specs.FaultSteps.{or_fault, where_holds, ◌>>=◌}
use Rattle.building.specs.PanelTable.{panel_in}
use Rattle.building.specs.PointTable.{point_in}
use Rattle.building.specs.Section.{each_table, table_in}
use Rattle.points.specs.declared.Panel.{Panel}
use Rattle.points.specs.declared.Point.{Point}
use Rattle.building.specs.declared.named_calendar.NamedCalendar.{NamedCalendar}
use Rattle.building.specs.declared.named_schedule.NamedSchedule.{NamedSchedule}
use Rattle.building.specs.CalendarTable.{calendar_in}
use Rattle.building.specs.ScheduleTable.{schedule_in}
use Rattle.points.specs.Texts.{text_of}
use Rattle.building.specs.TopTable.{Top, top_in, top_location}

-- the bytes that a file has at most
abbrev pub longest_file : ℕ
longest_file = 1_048_576

abbrev pub no_toml : FileFault
no_toml = fault_at top_location key.File NotToml

-- the TOML tree of a file: B13 for its length, then B1
unfoldable pub tree_of : List ℕ → Result Members FileFault
tree_of bytes = do
  file ← where_holds (nat_le (length bytes) longest_file) (fault_at top_location key.File BeyondLimit) bytes
  text ← or_fault no_toml (text_of file)
  or_fault no_toml (parse_document text)

-- ---- the sections, each table with a name that none before it has

abbrev pub point_keys : List Key
point_keys = key.Name ∷ key.Kind ∷ key.States ∷ key.Low ∷ key.High ∷ key.Default ∷ []

abbrev pub panel_keys : List Key
panel_keys = key.Name ∷ key.Points ∷ key.Priorities ∷ []

abbrev pub calendar_keys : List Key
calendar_keys = key.Name ∷ key.Entries ∷ []

abbrev pub schedule_keys : List Key
schedule_keys = key.Name ∷ key.Period ∷ key.Priority ∷ key.Targets ∷ key.Default ∷ key.Weekly ∷ key.Exception ∷ key.OnLeave ∷ []

abbrev pub points_in : Items → Result (List Point) FileFault
points_in items = each_table section.Point (λ point. point.name) (table_in point_keys (λ point. point.name) point_in) [] items

abbrev pub panels_in : List Point → Items → Result (List Panel) FileFault
panels_in points items =
    each_table section.Panel (λ panel. panel.name) (table_in panel_keys (λ panel. panel.name) (panel_in points)) [] items

abbrev pub calendars_in : Items → Result (List NamedCalendar) FileFault
calendars_in items = each_table section.Calendar (λ calendar. calendar.name)
    (table_in calendar_keys (λ calendar. calendar.name) calendar_in) [] items

abbrev pub schedules_in : List Point → List NamedCalendar → Items → Result (List NamedSchedule) FileFault
schedules_in points calendars items = each_table section.Schedule (λ schedule. schedule.name)
    (table_in schedule_keys (λ schedule. schedule.name) (schedule_in points calendars)) [] items

-- ---- the building

-- what a file says of a building: what its zone's rule says, and the lists in file order
pub record Contents : Type 0 where
  pub zone : Option TzText
  pub points : List Point
  pub panels : List Panel
  pub calendars : List NamedCalendar
  pub schedules : List NamedSchedule

-- the sections before the schedules, and these
abbrev pub with_schedules : Top → List Point → List Panel → List NamedCalendar → Result Contents FileFault
with_schedules top points panels calendars = schedules_in points calendars top.schedules >>= (λ schedules. Ok (record {
  zone = top.zone;
  points = points;
  panels = panels;
  calendars = calendars;
  schedules = schedules;
}))

-- the top table first, then points, panels, calendars and schedules
unfoldable pub contents_in : Members → Result Contents FileFault
contents_in ms = do
  top ← top_in ms
  points ← points_in top.points
  panels ← panels_in points top.panels
  calendars ← calendars_in top.calendars
  with_schedules top points panels calendars

-- the building of a file
unfoldable pub building_of : List ℕ → Result Contents FileFault
building_of bytes = tree_of bytes >>= contents_in
