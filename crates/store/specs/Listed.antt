-- What a store lists: its panels, points, schedules and calendars, and the imported entries of a calendar.
use Rattle.std.specs.Prelude.{◌≡◌, ℕ, ◌↔◌, ◌⊎◌, List, map, IsSome}
use Rattle.std.specs.Bool.{IsTrue}
use Rattle.std.specs.Cmp.Lexicographic.{slice_cmp}
use Rattle.std.specs.FinMap.{empty}
use Rattle.std.specs.List.{Contains}
use Rattle.std.specs.List.Sorted.{IsStrictlySortedBy}
use Rattle.std.specs.Ordering.{nat_cmp}
use Rattle.dates.specs.declared.entry.Entry.{Entry}
use Rattle.dates.specs.Entry.{spelling}
use Rattle.store.specs.declared.names.Names.{Names}
use Rattle.store.specs.Tables.{Tables}
use Rattle.points.specs.Texts.{Text}

-- the texts of which something holds, by rising order of their bytes and none twice
pub record AreTexts (holds : Text → Type 0) (texts : List Text) : Type 0 where
  pub rise : IsStrictlySortedBy (slice_cmp nat_cmp) texts
  pub each : (text : Text) → Contains texts text ↔ holds text

-- a panel stands in the tables by its next number or by a row
abbrev pub HasPanel : Tables → Text → Type 0
HasPanel tables panel = (tables.next panel ≡ 1 → ⊥) ⊎ ((number : ℕ) × IsSome (tables.row panel number))

abbrev pub HasPoint : Tables → Text → Type 0
HasPoint tables point = tables.places point ≡ empty → ⊥

abbrev pub HasSchedule : Tables → Text → Type 0
HasSchedule tables schedule = IsSome (tables.shown schedule)

abbrev pub HasCalendar : Tables → Text → Type 0
HasCalendar tables calendar = (text : Text) × IsTrue (tables.imported calendar text)

-- the names that stand in the tables
pub record AreNames (tables : Tables) (names : Names) : Type 0 where
  pub panels : AreTexts (HasPanel tables) names.panels.items
  pub points : AreTexts (HasPoint tables) names.points.items
  pub schedules : AreTexts (HasSchedule tables) names.schedules.items
  pub calendars : AreTexts (HasCalendar tables) names.calendars.items

-- the entries that are imported into a calendar, by the order of their texts
abbrev pub AreEntries : Tables → Text → List Entry → Type 0
AreEntries tables calendar entries = AreTexts (λ text. IsTrue (tables.imported calendar text)) (map spelling entries)
