-- What the report of a day over a store that is opened for it prints and leaves.
use Rattle.std.specs.Prelude.{◌≡◌, ℕ, List, Option, Result, Ok}
use Rattle.std.specs.Io.KnownBytes.{Appends}
use Rattle.building.specs.Building.{Building, contents_of}
use Rattle.building.specs.BuildingFile.{building_of}
use Rattle.dates.specs.Day.{SpellsDay}
use Rattle.desk.specs.DayReport.{report_text}
use Rattle.deliveries.specs.declared.delivery.Delivery.{Delivery}
use Rattle.deliveries.specs.Delivered.{Holds}
use Rattle.deliveries.specs.Tables.{tables}
use Rattle.jiff_core.specs.declared.civil.date.Date.{Date}
use Rattle.desk_settling.specs.Calendars.{Tells}
use Rattle.store.specs.Standing.{Standing}
use Rattle.points.specs.Texts.{Text}
use Rattle.store.specs.declared.open_fault.OpenFault.{OpenFault}
use Rattle.cli_store.specs.Answered.{Opens}

-- the report over the tables of earlier deliveries was printed, and the store holds them still
pub record Reports (building : Building) (earlier : List Delivery) (day : Date) (left : Standing)
    (old new : Option (List ℕ)) : Type 0 where
  pub printed : (imported : Text → List Text) → Tells (tables building earlier).imported imported
      → Appends old new (report_text building imported (tables building earlier).places day)
  pub holds : Holds building earlier left

-- The file is a building, the text spells a day, and the report of that day was printed: over whatever list of deliveries
-- the store that was opened holds the tables of.
pub record IsReported {S : Type 0} (standing : S → Standing) (may_open : Result S OpenFault → Type 0) (date : Text)
    (file : List ℕ) (left : S) (old new : Option (List ℕ)) : Type 0 where
  pub building : Building
  pub building_is : building_of file ≡ Ok (contents_of building)
  pub day : Date
  pub day_is : SpellsDay date day
  pub reports : (earlier : List Delivery) → Opens may_open (λ store. Holds building earlier (standing store))
      → (standing left).is_honest → Reports building earlier day (standing left) old new
