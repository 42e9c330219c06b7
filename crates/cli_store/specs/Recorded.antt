-- What one delivery of a run with a record prints, and what it leaves of the store and of the record.
use Rattle.std.specs.Prelude.{◌≡◌, ℕ, Bool, false, List, [], ◌∷◌, ◌++◌, Option, Result, Ok}
use Rattle.std.specs.Bool.{IsTrue}
use Rattle.building.specs.Building.{Building, contents_of}
use Rattle.building.specs.BuildingFile.{building_of}
use Rattle.deliveries.specs.declared.delivery.Delivery.{Delivery}
use Rattle.deliveries.specs.Tables.{tables}
use Rattle.desk_record.specs.Lines.{IsWhole}
use Rattle.desk_record.specs.Recorded.{AreLevel, InStep, IsBehind, listed}
use Rattle.desk_record.specs.RecordStanding.{RecordStanding}
use Rattle.sqlite_disk.specs.Disk.{Only}
use Rattle.store.specs.Standing.{Content, Standing, sound}
use Rattle.store.specs.declared.open_fault.OpenFault.{OpenFault}
use Rattle.cli_store.specs.Answered.{Answers, Opens}

-- a record that was taken up tells these deliveries, and is in step with the store, if that was behind them, after whatever
-- earlier ones
pub record IsTakenUp (building : Building) (deliveries : List Delivery) (taken : RecordStanding) (old new : Standing) : Type 0 where
  pub lists : taken.is_honest → listed building taken.bytes ≡ deliveries
  pub in_step : (earlier : List Delivery) → taken.is_honest → new.is_honest → IsBehind building earlier deliveries old
      → InStep building earlier taken new

-- an open record, which began after earlier deliveries, tells one more; after the others the reply of the definition was printed,
-- and the store has the tables of all of them
pub record Adds (building : Building) (earlier : List Delivery) (delivery : Delivery) (before after : RecordStanding) (left : Standing)
    (old new : Option (List ℕ)) : Type 0 where
  pub lists : listed building after.bytes ≡ listed building before.bytes ++ delivery ∷ []
  pub is_open : after.is_shut ≡ false
  pub level : AreLevel building earlier after left
  pub answers : Answers building (earlier ++ listed building before.bytes) delivery left old new

-- After earlier deliveries and those of a record the reply of the definition was printed, and the store holds the tables with
-- this delivery. The record's file is whole lines, which tell its deliveries and this one. A stop leaves just these tables and
-- this file.
pub record Records (building : Building) (earlier deliveries : List Delivery) (delivery : Delivery) (left : Standing) (file : List ℕ)
    (may_leave : List ℕ → Type 0) (old new : Option (List ℕ)) : Type 0 where
  pub answers : Answers building (earlier ++ deliveries) delivery left old new
  pub leaves : (content : Content) → left.may_leave content
      → content ≡ sound (tables building ((earlier ++ deliveries) ++ delivery ∷ []))
  pub lists : listed building file ≡ deliveries ++ delivery ∷ []
  pub whole : IsWhole file
  pub on_disk : Only file may_leave

-- The file is a building, and the delivery that is asked of it was written down and answered: after whatever deliveries the
-- record that was opened tells, and whatever earlier ones, where the store that was opened has the tables of both, or of all but
-- the last.
pub record IsRecorded {S D : Type 0} (standing : S → Standing) (seen : D → List ℕ) (may_leave : D → List ℕ → Type 0)
    (is_clean : D → Bool) (may_open : Result S OpenFault → Type 0) (may_open_record : Result D OpenFault → Type 0)
    (IsAsked : Building → Delivery → Type 0) (file : List ℕ) (left : S) (disk : D) (old new : Option (List ℕ)) : Type 0 where
  pub building : Building
  pub building_is : building_of file ≡ Ok (contents_of building)
  pub delivery : Delivery
  pub asked : IsAsked building delivery
  pub records : (earlier deliveries : List Delivery) → Opens may_open_record (λ opened. listed building (seen opened) ≡ deliveries)
      → Opens may_open (λ store. IsBehind building earlier deliveries (standing store))
      → (standing left).is_honest → IsTrue (is_clean disk)
      → Records building earlier deliveries delivery (standing left) (seen disk) (may_leave disk) old new
