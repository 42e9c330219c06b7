-- What is noted while a building takes tables along.
use Rattle.std.specs.Prelude.{◌≡◌, Bool, false, ◌||◌, find, if◌then◌else◌, is_some, List, [], ◌∷◌, ◌++◌, Option, Some, None}
use Rattle.std.specs.List.{flat_map}
use Rattle.std.specs.Option.{option_map_or}
use Rattle.std.specs.Str.{bytes_eq}
use Rattle.building.specs.Building.{Building}
use Rattle.points.specs.declared.point.Point.{Point}
use Rattle.points.specs.NameIndex.{is_among}
use Rattle.points.specs.PriorityArray.{Places}
use Rattle.points.specs.Rights.{point_named}
use Rattle.store.specs.Tables.{Tables}
use Rattle.points.specs.Texts.{Text}
use Rattle.desk_adopt.specs.declared.finding.Finding.{Finding}
use Rattle.desk_adopt.specs.declared.finding.Finding.TheVariants.{UnknownCalendar, UnknownPanel, UnknownPoint, UnknownSchedule}
use Rattle.desk_adopt.specs.Findings.{of_places, unless}
use Rattle.desk_adopt.specs.declared.renamed_name.NameKind.{NameKind}
use Rattle.desk_adopt.specs.declared.renamed_name.NameKind.TheVariants as kind_of
use Rattle.desk_adopt.specs.declared.renamed_name.RenamedName.{RenamedName}
use Rattle.desk_adopt.specs.declared.renaming.Renaming.{Renaming}
use Rattle.desk_adopt.specs.declared.sections.Section.{Section}
use Rattle.desk_adopt.specs.declared.sections.Sections.{Sections}
use Rattle.desk_adopt.specs.declared.unused_renaming.UnusedReason.{UnusedReason}
use Rattle.desk_adopt.specs.declared.unused_renaming.UnusedReason.TheVariants.{NotInTables, OtherSection}
use Rattle.desk_adopt.specs.declared.unused_renaming.UnusedRenaming.{UnusedRenaming}
use Rattle.desk_adopt.specs.Renamed.{former_name}
use Rattle.desk_adopt.specs.Sections.{AreSections, counts}

-- a name of the building has this one in the earlier tables
abbrev pub has_former : List Renaming → Text → Text → Bool
has_former renamings old name = option_map_or (λ former. bytes_eq former old) (former_name renamings name) false

-- the name that one of the earlier tables has in the building
abbrev pub name_now : Section → Text → Option Text
name_now section old = find (has_former section.renamings.items old) section.has.items

-- ---- what has another name

abbrev pub unless_same : NameKind → Text → Option Text → List RenamedName
unless_same kind old None = []
unless_same kind old (Some new) = if bytes_eq old new then [] else record { kind = kind; old = old; new = new } ∷ []

abbrev pub renamed_in : NameKind → Section → List RenamedName
renamed_in kind section = flat_map (λ old. unless_same kind old (name_now section old)) section.stand.items

-- the panels, the points, the schedules and the calendars, each by rising name
abbrev pub renamed_of : Sections → List RenamedName
renamed_of sections = renamed_in kind_of.Panel sections.panels
    ++ (renamed_in kind_of.Point sections.points
    ++ (renamed_in kind_of.Schedule sections.schedules
    ++ renamed_in kind_of.Calendar sections.calendars))

-- ---- what stays behind

abbrev pub left_panel : Section → Text → List Finding
left_panel section old = unless (is_some (name_now section old)) (UnknownPanel old)

abbrev pub left_schedule : Section → Text → List Finding
left_schedule section old = unless (is_some (name_now section old)) (UnknownSchedule old)

abbrev pub left_calendar : Section → Text → List Finding
left_calendar section old = unless (is_some (name_now section old)) (UnknownCalendar old)

-- the values in the places of a point of the building
abbrev pub left_places : Building → Text → Places → Option Point → List Finding
left_places building old places None = UnknownPoint old ∷ []
left_places building old places (Some point) = of_places building point places

abbrev pub left_values : Building → Text → Places → Option Text → List Finding
left_values building old places None = UnknownPoint old ∷ []
left_values building old places (Some new) = left_places building old places (point_named building.points new)

abbrev pub left_point : Building → (Text → Places) → Section → Text → List Finding
left_point building places section old = left_values building old (places old) (name_now section old)

-- in the same order, of tables with these places
abbrev pub left_of : Building → Sections → (Text → Places) → List Finding
left_of building sections places = flat_map (left_panel sections.panels) sections.panels.stand.items
    ++ (flat_map (left_point building places sections.points) sections.points.stand.items
    ++ (flat_map (left_schedule sections.schedules) sections.schedules.stand.items
    ++ flat_map (left_calendar sections.calendars) sections.calendars.stand.items))

-- ---- which renamings count nowhere

abbrev pub counts_in : Renaming → Section → Bool
counts_in it section = counts section.has.items section.stand.items it

abbrev pub in_any : (Section → Bool) → Sections → Bool
in_any holds sections = holds sections.panels || (holds sections.points || (holds sections.schedules || holds sections.calendars))

abbrev pub reason_of : Sections → Renaming → UnusedReason
reason_of sections it = if in_any (λ section. is_among it.old section.stand.items) sections then OtherSection else NotInTables

abbrev pub unless_counting : Sections → Renaming → List UnusedRenaming
unless_counting sections it = if in_any (counts_in it) sections then []
    else record { renaming = it; reason = reason_of sections it } ∷ []

-- in their order
abbrev pub unused_of : List Renaming → Sections → List UnusedRenaming
unused_of renamings sections = flat_map (unless_counting sections) renamings

-- exactly what has another name, what stays behind, and which renamings count nowhere
pub record AreNotes (building : Building) (renamings : List Renaming) (tables : Tables)
    (renames : List RenamedName) (left : List Finding) (unused : List UnusedRenaming) : Type 0 where
  pub sections : Sections
  pub are_sections : AreSections building renamings tables sections
  pub renamed_are : renames ≡ renamed_of sections
  pub left_are : left ≡ left_of building sections tables.places
  pub unused_are : unused ≡ unused_of renamings sections
