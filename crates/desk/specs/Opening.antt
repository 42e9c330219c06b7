-- What opening a desk over a store looks at, and tells.
use Rattle.std.specs.Prelude.{◌≡◌, ◌⊎◌, ℤ, Bool, true, false, ◌&&◌, List, Option, Some, None}
use Rattle.std.specs.Bool.{IsTrue}
use Rattle.std.specs.List.{list_all, list_any}
use Rattle.std.specs.Str.{bytes_eq}
use Rattle.store.specs.Asked.Asked.{AnyName, EntriesOf, LastTick, NextOf}
use Rattle.store.specs.declared.fault.StoreFault.{StoreFault}
use Rattle.store.specs.declared.fault.StoreFault.TheVariants.{Failed, BadRow}
use Rattle.store.specs.declared.names.Names.{Names}
use Rattle.store.specs.Listed.{HasCalendar, HasPanel, HasPoint, HasSchedule}
use Rattle.store.specs.Standing.{Content, Goes, Standing}
use Rattle.store.specs.Tables.{Tables}
use Rattle.points.specs.Texts.{Text}
use Rattle.building.specs.Building.{Building}
use Rattle.building.specs.declared.named_calendar.NamedCalendar.{NamedCalendar}
use Rattle.deliveries.specs.Events.{is_moment}

abbrev pub has_panel : Building → Text → Bool
has_panel building name = list_any (λ panel. bytes_eq panel.name name) building.panels

abbrev pub has_point : Building → Text → Bool
has_point building name = list_any (λ point. bytes_eq point.name name) building.points

abbrev pub has_schedule : Building → Text → Bool
has_schedule building name = list_any (λ schedule. bytes_eq schedule.name name) building.schedules

abbrev pub has_calendar : Building → Text → Bool
has_calendar building name = list_any (λ calendar. bytes_eq calendar.name name) building.calendars

-- each name in the tables is one of the building's; the points of commands are left out
pub record AreKnown (building : Building) (tables : Tables) : Type 0 where
  pub panels : (name : Text) → HasPanel tables name → IsTrue (has_panel building name)
  pub points : (name : Text) → HasPoint tables name → IsTrue (has_point building name)
  pub schedules : (name : Text) → HasSchedule tables name → IsTrue (has_schedule building name)
  pub calendars : (name : Text) → HasCalendar tables name → IsTrue (has_calendar building name)

-- whether each of the names is one of the building's
abbrev pub are_known : Building → Names → Bool
are_known building names =
    list_all (has_panel building) names.panels.items && (list_all (has_point building) names.points.items
    && (list_all (has_schedule building) names.schedules.items && list_all (has_calendar building) names.calendars.items))

-- there was no tick, or the last one was at a moment at which the building's clock shows a time
abbrev pub is_ticked : Building → Option ℤ → Bool
is_ticked building None = true
is_ticked building (Some moment) = is_moment building moment

-- the names are the building's, and so is the moment of the last tick
pub record Suits (building : Building) (tables : Tables) : Type 0 where
  pub names : AreKnown building tables
  pub last : IsTrue (is_ticked building tables.last_tick)

-- of the rows of the calendars' entries and of the panels' next numbers each can stand
pub record HaveStood (calendars : List NamedCalendar) (panels : List Text) (standing : Standing) : Type 0 where
  pub entries : list_any (λ calendar. standing.cannot_stand (EntriesOf calendar.name)) calendars ≡ false
  pub nexts : list_any (λ panel. standing.cannot_stand (NextOf panel)) panels ≡ false

-- of the rows that a desk rests on each can stand: those of any name, the last tick, the entries of the building's
-- calendars, and the next numbers of the panels in the tables
pub record CanRest (building : Building) (standing : Standing) : Type 0 where
  pub names : standing.cannot_stand AnyName ≡ false
  pub last : standing.cannot_stand LastTick ≡ false
  pub entries : list_any (λ calendar. standing.cannot_stand (EntriesOf calendar.name)) building.calendars ≡ false
  pub nexts : (panel : Text) → HasPanel standing.content.tables panel → standing.cannot_stand (NextOf panel) ≡ false

-- A desk is opened over a store, or a fault is reported. Nothing changes. Where it is opened the tables suit the building, and
-- the rows that it rests on can stand; S5 is reported where they don't, or where a row is kept that cannot stand.
pub record Opens (building : Building) (fault : Option StoreFault) (old new : Standing) : Type 0 where
  pub goes : Goes fault old new
  pub kept : new.is_honest → (fault ≡ Some Failed → ⊥) → new.content ≡ old.content
  pub left : new.is_honest → old.is_shut ≡ false → (content : Content) → new.may_leave content → content ≡ old.content
  pub known : new.is_honest → fault ≡ None → Suits building old.content.tables
  pub rests : new.is_honest → fault ≡ None → CanRest building old
  pub bad_row : new.is_honest → fault ≡ Some BadRow → (Suits building old.content.tables → ⊥) ⊎ (old.content.is_sound ≡ false)
