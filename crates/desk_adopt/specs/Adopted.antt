-- What a changed building takes along of the tables of an earlier one.
use Rattle.std.specs.Prelude.{◌≡◌, ℕ, ◌+◌, ◌-◌, Bool, false, ◌&&◌, ◌||◌, nat_lt, nat_le, ◌==◌, List, Option, Some, None, if◌then◌else◌, ℤ}
use Rattle.std.specs.FinMap.{empty, get}
use Rattle.std.specs.Option.{option_map_or}
use Rattle.building.specs.Building.{Building}
use Rattle.building.specs.declared.named_calendar.NamedCalendar.{NamedCalendar}
use Rattle.points.specs.declared.panel.Panel.{Panel}
use Rattle.points.specs.declared.point.Point.{Point}
use Rattle.points.specs.Kind.{lies_in}
use Rattle.points.specs.PriorityArray.{Places}
use Rattle.points.specs.Rights.{point_named}
use Rattle.points.specs.Run.{Rows}
use Rattle.store.specs.Tables.{Tables}
use Rattle.store_copy.specs.Remembered.{remembered_row}
use Rattle.points.specs.Texts.{Text}
use Rattle.desk_adopt.specs.Findings.{is_written}
use Rattle.desk_adopt.specs.declared.renaming.Renaming.{Renaming}
use Rattle.desk_adopt.specs.declared.sections.Sections.{Sections}
use Rattle.desk_adopt.specs.Renamed.{at_items, former}
use Rattle.desk_adopt.specs.Sections.{AreSections, joined}

-- ---- the places of points

-- the value lies in the point's kind, and a schedule or a panel writes to this place
abbrev pub suits : Building → Text → ℕ → ℤ → Bool
suits building point priority value =
    option_map_or (λ (it : Point). lies_in it.kind value) (point_named building.points point) false && is_written building point priority

-- a value that may stay in a place
abbrev pub kept_value : Building → Text → ℕ → Option ℤ → Option ℤ
kept_value building point priority None = None
kept_value building point priority (Some value) = if suits building point priority value then Some value else None

-- ---- the rows of panels

-- of a panel of which nothing is kept
abbrev pub no_next : Text → ℕ
no_next panel = 1

abbrev pub no_rows : Rows
no_rows number = None

-- ---- what stands for nothing

abbrev pub no_entries : Text → Bool
no_entries text = false

abbrev pub no_places : Text → Places
no_places point = empty

-- ---- the tables

-- each part of the new tables, in the words of the old ones, by the renamings that count in its section
pub record AreMoved (building : Building) (sections : Sections) (old new : Tables) : Type 0 where
  pub places : (point : Text) (priority : ℕ) → get (new.places point) priority ≡ at_items (λ (it : Point). it.name) building.points
      (λ name. kept_value building name priority (get (former sections.points.renamings.items old.places empty name) priority)) None point
  pub next : (panel : Text) → new.next panel ≡ at_items (λ (it : Panel). it.name) building.panels
      (former sections.panels.renamings.items old.next 1) 1 panel
  pub row : (panel : Text) (number : ℕ) → new.row panel number ≡ at_items (λ (it : Panel). it.name) building.panels
      (λ name. remembered_row (former sections.panels.renamings.items old.next 1 name)
      (former sections.panels.renamings.items old.row no_rows name) number) None panel
  pub shown : (schedule : Text) → new.shown schedule ≡ None
  pub imported : (calendar text : Text) → new.imported calendar text ≡ at_items (λ (it : NamedCalendar). it.name) building.calendars
      (λ name. former sections.calendars.renamings.items old.imported no_entries name text) false calendar
  pub last_tick : new.last_tick ≡ old.last_tick

-- the same, where no renaming would make one thing of two
pub record IsAdopted (building : Building) (renamings : List Renaming) (old new : Tables) : Type 0 where
  pub sections : Sections
  pub are_sections : AreSections building renamings old sections
  pub none_joined : joined sections ≡ None
  pub moved : AreMoved building sections old new
