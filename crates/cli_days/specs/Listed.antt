-- What the listing of the days of a range prints.
use Rattle.std.specs.Prelude.{◌≡◌, ◌⊎◌, List, [], Option, Some, Result, Ok, IfOk, IfSome}
use Rattle.std.specs.Io.KnownBytes.{Appends, Keeps}
use Rattle.jiff_core.specs.declared.civil.date.Date.{Date}
use Rattle.building.specs.Building.{Building, contents_of}
use Rattle.building.specs.BuildingFile.{building_of}
use Rattle.cli_common.specs.declared.status.Status.{Status}
use Rattle.cli_common.specs.declared.status.Status.TheVariants.{Done}
use Rattle.dates.specs.Day.{SpellsDay}
use Rattle.dates.specs.declared.range.Range.{Range}
use Rattle.desk_settling.specs.Calendars.{Tells, calendars_of}
use Rattle.points.specs.Beginnings.{AppendsStart}
use Rattle.points.specs.Texts.{Text}
use Rattle.store.specs.declared.open_fault.OpenFault.{OpenFault}
use Rattle.store.specs.Standing.{Standing}
use Rattle.store.specs.Tables.{Tables}
use Rattle.cli_days.specs.DayLines.{days_text}

abbrev pub from_to : Date → Date → Range
from_to first last = record { start = Some first; end = Some last }

-- the lines of the days from a first to a last one, over what is imported
abbrev pub listing : Building → (Text → List Text) → Date → Date → Text
listing building imported first last = days_text building (calendars_of building imported) (from_to first last)

-- the words spell the two ends of a range
pub record SpellsRange (from to : Text) (range : Range) : Type 0 where
  pub first : Date
  pub last : Date
  pub first_is : SpellsDay from first
  pub last_is : SpellsDay to last
  pub range_is : range ≡ from_to first last

-- the file is a building, and the two words spell days
pub record Asks (file from to : Text) : Type 0 where
  pub building : Building
  pub building_is : building_of file ≡ Ok (contents_of building)
  pub first : Date
  pub last : Date
  pub first_is : SpellsDay from first
  pub last_is : SpellsDay to last

abbrev pub asked_listing : {file from to : Text} → Asks file from to → (Text → List Text) → Text
asked_listing asked imported = listing asked.building imported asked.first asked.last

-- a text was printed whole, or where the run was not done a beginning of it
pub record Prints (status : Status) (old new : Option Text) (text : Text) : Type 0 where
  pub whole : status ≡ Done → Appends old new text
  pub no_more : AppendsStart old new text

-- the listing over the file's own entries was printed
abbrev pub Lists : (file from to : Text) → Option Text → Option Text → Type 0
Lists file from to old new = (asked : Asks file from to) × Appends old new (asked_listing asked (λ calendar. []))

-- nothing was printed; or a beginning of that listing was
abbrev pub ListsNoMore : (file from to : Text) → Option Text → Option Text → Type 0
ListsNoMore file from to old new = Keeps old new ⊎ ((asked : Asks file from to) × AppendsStart old new (asked_listing asked (λ calendar. [])))

-- whatever a call may find, if it is a store, it is such a one
abbrev pub Finds : {S : Type 0} → (Result (Option S) OpenFault → Type 0) → (S → Type 0) → Type 0
Finds {S} may_find IsSuch = (found : Result (Option S) OpenFault) → may_find found → IfOk found (λ store. IfSome store IsSuch)

-- The listing over the file's entries and those imported into the tables that the store held when it was found was
-- printed; where the run is done, the store holds these tables still.
pub record IsListed {S : Type 0} (standing : S → Standing) (may_find : Result (Option S) OpenFault → Type 0)
    (file from to : Text) (status : Status) (left : S) (old new : Option Text) : Type 0 where
  pub asked : Asks file from to
  pub reported : (tables : Tables) → Finds may_find (λ store. (standing store).content.tables ≡ tables)
      → (standing left).is_honest → (imported : Text → List Text) → Tells tables.imported imported
      → Prints status old new (asked_listing asked imported)
  pub kept : status ≡ Done → (tables : Tables) → Finds may_find (λ store. (standing store).content.tables ≡ tables)
      → (standing left).is_honest → (standing left).content.tables ≡ tables
