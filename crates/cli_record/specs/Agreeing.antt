-- Where the tables of a database and of a record agree, at the names of a building.
use Rattle.std.specs.Prelude.{◌≡◌, ℕ, ◌≤◌, ◌<◌, ◌↔◌, List, [], None}
use Rattle.std.specs.FinMap.{get}
use Rattle.std.specs.List.{Contains}
use Rattle.building.specs.Building.{Building}
use Rattle.building.specs.declared.named_calendar.NamedCalendar.{NamedCalendar}
use Rattle.building.specs.declared.named_schedule.NamedSchedule.{NamedSchedule}
use Rattle.points.specs.declared.panel.Panel.{Panel}
use Rattle.points.specs.declared.point.Point.{Point}
use Rattle.store.specs.Tables.{Tables}
use Rattle.points.specs.Texts.{Text}
use Rattle.cli_record.specs.declared.difference.Difference.{Difference}
use Rattle.cli_record.specs.Differences.{AreDifferences, end_number, first_number, first_place}

-- the panel has one next number, and one row or none under each number that it may still repeat or use
pub record AgreeAtPanel (held recorded : Tables) (panel : Panel) : Type 0 where
  pub next : held.next panel.name ≡ recorded.next panel.name
  pub rows : (number : ℕ) → first_number (held.next panel.name) ≤ number → number < end_number (held.next panel.name)
      → held.row panel.name number ≡ recorded.row panel.name number

-- the point has one value or none in each place
abbrev pub AgreeAtPoint : Tables → Tables → Point → Type 0
AgreeAtPoint held recorded point = (priority : ℕ) → 1 ≤ priority → priority ≤ 16
    → get (held.places point.name) priority ≡ get (recorded.places point.name) priority

pub record Agree (building : Building) (held recorded : Tables) : Type 0 where
  pub panels : (panel : Panel) → Contains building.panels panel → AgreeAtPanel held recorded panel
  pub points : (point : Point) → Contains building.points point → AgreeAtPoint held recorded point
  pub schedules : (schedule : NamedSchedule) → Contains building.schedules schedule
      → held.shown schedule.name ≡ recorded.shown schedule.name
  pub calendars : (calendar : NamedCalendar) → Contains building.calendars calendar
      → (text : Text) → held.imported calendar.name text ≡ recorded.imported calendar.name text
  pub last_tick : held.last_tick ≡ recorded.last_tick

-- there is no difference just where the tables agree
abbrev pub NoDifferenceWhereTablesAgree : Type 0
NoDifferenceWhereTablesAgree = (building : Building) (held recorded : Tables) (found : List Difference)
    → AreDifferences building held recorded found → (found ≡ []) ↔ Agree building held recorded

-- no place of a point is the first that differs, just where the points agree in all places
abbrev pub NoPlaceWherePointsAgree : Type 0
NoPlaceWherePointsAgree = (building : Building) (held recorded : Tables)
    → (first_place building held recorded ≡ None) ↔ ((point : Point) → Contains building.points point → AgreeAtPoint held recorded point)
