-- The names of a section, in the building and in the tables, and which renamings count there.
use Rattle.std.specs.Prelude.{◌≡◌, ◌&&◌, Bool, filter, find, List, map, not, Option}
use Rattle.std.specs.List.{list_any}
use Rattle.std.specs.Str.{bytes_eq}
use Rattle.building.specs.Building.{Building}
use Rattle.building.specs.declared.named_calendar.NamedCalendar.{NamedCalendar}
use Rattle.building.specs.declared.named_schedule.NamedSchedule.{NamedSchedule}
use Rattle.points.specs.declared.panel.Panel.{Panel}
use Rattle.points.specs.declared.point.Point.{Point}
use Rattle.points.specs.NameIndex.{is_among}
use Rattle.points.specs.Texts.{Text}
use Rattle.store.specs.Listed.{AreTexts, HasCalendar, HasPanel, HasPoint, HasSchedule}
use Rattle.store.specs.Tables.{Tables}
use Rattle.desk_adopt.specs.declared.renaming.Renaming.{Renaming}
use Rattle.desk_adopt.specs.declared.sections.Section.{Section}
use Rattle.desk_adopt.specs.declared.sections.Sections.{Sections}
use Rattle.store_copy.specs.Named.{or_else}

abbrev pub panel_names : Building → List Text
panel_names building = map (λ (panel : Panel). panel.name) building.panels

abbrev pub point_names : Building → List Text
point_names building = map (λ (point : Point). point.name) building.points

abbrev pub schedule_names : Building → List Text
schedule_names building = map (λ (schedule : NamedSchedule). schedule.name) building.schedules

abbrev pub calendar_names : Building → List Text
calendar_names building = map (λ (calendar : NamedCalendar). calendar.name) building.calendars

-- ---- which renamings count

-- a renaming of a name that stands in the tables, to one that the building has
abbrev pub counts : List Text → List Text → Renaming → Bool
counts has stand it = is_among it.old stand && is_among it.new has

-- the names of a section of the building, those of which something stands in the tables, and the renamings that count
pub record IsSection (has : List Text) (Stands : Text → Type 0) (renamings : List Renaming) (section : Section) : Type 0 where
  pub has_are : section.has.items ≡ has
  pub stand_are : AreTexts Stands section.stand.items
  pub counting : section.renamings.items ≡ filter (counts has section.stand.items) renamings

-- each section of a building and of tables
pub record AreSections (building : Building) (renamings : List Renaming) (tables : Tables) (sections : Sections) : Type 0 where
  pub panels : IsSection (panel_names building) (HasPanel tables) renamings sections.panels
  pub points : IsSection (point_names building) (HasPoint tables) renamings sections.points
  pub schedules : IsSection (schedule_names building) (HasSchedule tables) renamings sections.schedules
  pub calendars : IsSection (calendar_names building) (HasCalendar tables) renamings sections.calendars

-- ---- which would make one thing of two

-- one to a name that stands in the tables too, and is not renamed itself
abbrev pub joins : Section → Renaming → Bool
joins section it = is_among it.new section.stand.items && not (list_any (λ one. bytes_eq one.old it.new) section.renamings.items)

abbrev pub joined_in : Section → Option Renaming
joined_in section = find (joins section) section.renamings.items

-- the first of the panels, or else of the points, the schedules, the calendars
abbrev pub joined : Sections → Option Renaming
joined sections = or_else (joined_in sections.panels)
    (or_else (joined_in sections.points) (or_else (joined_in sections.schedules) (joined_in sections.calendars)))
