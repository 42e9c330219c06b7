-- What of the tables does not suit a building.
use Rattle.std.specs.Prelude.{ℕ, ℤ, pos, Bool, ◌==◌, ◌&&◌, ◌||◌, find, position, is_none, is_some, if◌then◌else◌, List, [], ◌∷◌, ◌++◌, Option, Some, None}
use Rattle.std.specs.FinMap.{get}
use Rattle.std.specs.List.{flat_map, list_any, range_with_len}
use Rattle.std.specs.Str.{bytes_eq}
use Rattle.building.specs.Building.{Building}
use Rattle.building.specs.declared.named_schedule.NamedSchedule.{NamedSchedule}
use Rattle.local_times.specs.LocalTimes.{local_at}
use Rattle.points.specs.declared.panel.Panel.{Panel}
use Rattle.points.specs.declared.point.Point.{Point}
use Rattle.points.specs.Kind.{lies_in}
use Rattle.points.specs.NameIndex.{is_among}
use Rattle.points.specs.PriorityArray.{Places}
use Rattle.points.specs.Rights.{point_named, rule_of}
use Rattle.store.specs.declared.names.Names.{Names}
use Rattle.points.specs.Texts.{Text}
use Rattle.desk_adopt.specs.declared.finding.Finding.{Finding}
use Rattle.desk_adopt.specs.declared.finding.Finding.TheVariants.{NoTime, NobodyWrites, OutsideKind, UnknownCalendar, UnknownPanel, UnknownPoint, UnknownSchedule}

-- what is found where something does not hold
abbrev pub unless : Bool → Finding → List Finding
unless holds finding = if holds then [] else finding ∷ []

-- a schedule that writes to the point at the priority
abbrev pub is_target : Text → ℕ → NamedSchedule → Bool
is_target point priority schedule = schedule.priority == priority && is_among point schedule.targets

-- a panel that may relinquish the place: so one that may write there, since every kind accepts NULL
abbrev pub may_relinquish : List Point → Text → ℕ → Panel → Bool
may_relinquish points point priority panel = is_none (rule_of points panel (record {
  point = point;
  priority = pos priority;
  value = None;
}))

abbrev pub a_schedule_writes : Building → Text → ℕ → Bool
a_schedule_writes building point priority = list_any (is_target point priority) building.schedules

abbrev pub a_panel_writes : Building → Text → ℕ → Bool
a_panel_writes building point priority = list_any (may_relinquish building.points point priority) building.panels

abbrev pub is_written : Building → Text → ℕ → Bool
is_written building point priority = a_schedule_writes building point priority || a_panel_writes building point priority

-- of a value in a place of a point
abbrev pub of_value : Building → Point → ℕ → ℤ → List Finding
of_value building point priority value = unless (is_written building point.name priority) (NobodyWrites point.name priority)
    ++ unless (lies_in point.kind value) (OutsideKind point.name priority value)

-- of a place, which may be NULL
abbrev pub of_place : Building → Point → ℕ → Option ℤ → List Finding
of_place building point priority None = []
of_place building point priority (Some value) = of_value building point priority value

-- of the places of a point of the building, from 1 to 16
abbrev pub of_places : Building → Point → Places → List Finding
of_places building point places = flat_map (λ priority. of_place building point priority (get places priority)) (range_with_len 1 16)

-- of a name of a point, if it is one of the building's
abbrev pub of_found : Building → Text → Places → Option Point → List Finding
of_found building name places None = UnknownPoint name ∷ []
of_found building name places (Some point) = of_places building point places

abbrev pub of_point : Building → (Text → Places) → Text → List Finding
of_point building places name = of_found building name (places name) (point_named building.points name)

abbrev pub has_panel : Building → Text → Bool
has_panel building name = is_some (find (λ panel. bytes_eq panel.name name) building.panels)

abbrev pub of_panel : Building → Text → List Finding
of_panel building name = unless (has_panel building name) (UnknownPanel name)

abbrev pub has_schedule : Building → Text → Bool
has_schedule building name = is_some (position (λ schedule. bytes_eq schedule.name name) building.schedules)

abbrev pub of_schedule : Building → Text → List Finding
of_schedule building name = unless (has_schedule building name) (UnknownSchedule name)

abbrev pub has_calendar : Building → Text → Bool
has_calendar building name = is_some (position (λ calendar. bytes_eq calendar.name name) building.calendars)

abbrev pub of_calendar : Building → Text → List Finding
of_calendar building name = unless (has_calendar building name) (UnknownCalendar name)

-- of the last tick, at whose moment the building's clock may show no time
abbrev pub of_last_tick : Building → Option ℤ → List Finding
of_last_tick building None = []
of_last_tick building (Some moment) = unless (is_some (local_at building.zone moment)) (NoTime moment)

-- of tables in which these names stand, with these places and this last tick: the panels, the points with their places, the
-- schedules and the calendars, each by rising name, and the last tick
abbrev pub findings_of : Building → (Text → Places) → Option ℤ → Names → List Finding
findings_of building places last names = flat_map (of_panel building) names.panels.items
    ++ (flat_map (of_point building places) names.points.items
    ++ (flat_map (of_schedule building) names.schedules.items
    ++ (flat_map (of_calendar building) names.calendars.items ++ of_last_tick building last)))
