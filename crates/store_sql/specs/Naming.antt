-- The names of a table, and which of them stand.
use Rattle.std.specs.Prelude.{◌≡◌, ◌⊎◌, List, Option, Some, None, Bool, true, false}
use Rattle.points.specs.Name.{IsName}
use Rattle.sqlite_rules.specs.Lists.{Has}
use Rattle.sqlite_value.specs.declared.value.Value.TheVariants.{Text as TextCell}
use Rattle.sqlite_value.specs.Order.{Row, column}
use Rattle.store.specs.Listed.{AreTexts, HasCalendar, HasPanel, HasPoint, HasSchedule}
use Rattle.store.specs.Tables.{Tables}
use Rattle.points.specs.Texts.{Text}
use Rattle.store.specs.Asked.Asked.{AnyName, NextOf}
use Rattle.store_sql_rows.specs.Broken.{cannot_stand_in, is_unnumbered}
use Rattle.store_sql_rows.specs.Cells.{name_in}
use Rattle.store_sql_rows.specs.Stored.{Kept, tables_in}
use Rattle.store_sql.specs.Texts.{IsBefore}
use Rattle.store_sql.specs.declared.names.NameList.{NameList}
use Rattle.store_sql.specs.declared.names.NameList.TheVariants.{Calendars, Panels, Points, Schedules}

-- a row has this name
abbrev pub HasName : List Row → Text → Type 0
HasName rows name = (row : Row) × Has rows row × (column row 1 ≡ TextCell name)

-- a row has no name
abbrev pub HasNoName : List Row → Type 0
HasNoName rows = (row : Row) × Has rows row × (name_in (column row 1) ≡ None)

-- a row of one of a list's tables has this name
unfoldable pub IsKept : NameList → Kept → Text → Type 0
IsKept Panels kept name = HasName kept.panel name ⊎ HasName kept.command name
IsKept Points kept name = HasName kept.place name
IsKept Schedules kept name = HasName kept.shown name
IsKept Calendars kept name = HasName kept.imported name

-- the rows of a panel are numbered from 1
abbrev pub AreNumbered : Kept → Text → Type 0
AreNumbered kept panel = (row : Row) → Has kept.command row → column row 1 ≡ TextCell panel → is_unnumbered row ≡ false

-- a text is a name; a panel's rows are numbered from 1, and its next number can stand
unfoldable pub IsGood : NameList → Kept → Text → Type 0
IsGood Panels kept name = IsName name × AreNumbered kept name × (cannot_stand_in kept (NextOf name) ≡ false)
IsGood Points kept name = IsName name
IsGood Schedules kept name = IsName name
IsGood Calendars kept name = IsName name

-- a name that stands in one of the lists
unfoldable pub StandsIn : NameList → Tables → Text → Type 0
StandsIn Panels tables = HasPanel tables
StandsIn Points tables = HasPoint tables
StandsIn Schedules tables = HasSchedule tables
StandsIn Calendars tables = HasCalendar tables

-- a test tells whether something holds
pub record Tells (Holds : Type 0) (test : Bool) : Type 0 where
  pub held : test ≡ true → Holds
  pub gone : test ≡ false → Holds → ⊥

-- whether a panel stands is reported; its rows are numbered from 1, and its next number can stand
pub record IsNumbered (kept : Kept) (panel : Text) (stands : Bool) : Type 0 where
  pub tells : Tells (HasPanel (tables_in kept) panel) stands
  pub numbered : AreNumbered kept panel
  pub next : cannot_stand_in kept (NextOf panel) ≡ false

-- whether a name stands in a list is reported, and what is kept under it is good
pub record IsListed (list : NameList) (kept : Kept) (name : Text) (stands : Bool) : Type 0 where
  pub tells : Tells (StandsIn list (tables_in kept) name) stands
  pub good : IsGood list kept name

-- the names that stand in a list, where what is kept under each name is good
pub record AreAll (list : NameList) (kept : Kept) (names : List Text) : Type 0 where
  pub stand : AreTexts (StandsIn list (tables_in kept)) names
  pub good : (name : Text) → IsKept list kept name → IsGood list kept name

-- each name in the tables can stand, and each panel's next number
pub record NamesStand (kept : Kept) : Type 0 where
  pub names : cannot_stand_in kept AnyName ≡ false
  pub nexts : (panel : Text) → cannot_stand_in kept (NextOf panel) ≡ false

-- of two names the one that comes first, or the only one
abbrev pub IsLesser : Option Text → Option Text → Option Text → Type 0
IsLesser None second result = result ≡ second
IsLesser (Some one) None result = result ≡ Some one
IsLesser (Some one) (Some other) result = ((result ≡ Some other) × IsBefore other one) ⊎ ((result ≡ Some one) × (IsBefore other one → ⊥))
