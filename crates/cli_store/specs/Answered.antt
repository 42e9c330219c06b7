-- What one delivery to a store that is opened for it prints and leaves.
use Rattle.std.specs.Prelude.{◌≡◌, ℕ, List, [], ◌∷◌, ◌++◌, Option, Some, Result, Ok, IfOk}
use Rattle.std.specs.Io.KnownBytes.{Appends}
use Rattle.building.specs.Building.{Building, contents_of}
use Rattle.building.specs.BuildingFile.{building_of}
use Rattle.cli_common.specs.Input.{bytes_of}
use Rattle.cli_store.specs.declared.clock_delivery.ClockDelivery.{ClockDelivery}
use Rattle.cli_store.specs.declared.clock_delivery.ClockDelivery.TheVariants as clock
use Rattle.deliveries.specs.declared.delivery.Delivery.{Delivery}
use Rattle.deliveries.specs.declared.delivery.Delivery.TheVariants.{Tick}
use Rattle.deliveries.specs.Delivered.{Holds}
use Rattle.deliveries.specs.Reply.{reply}
use Rattle.delivery_json.specs.ClockLine.{import_of}
use Rattle.delivery_json.specs.declared.parsed_line.ParsedLine.TheVariants as parsed
use Rattle.delivery_json.specs.ReplyText.{reply_line}
use Rattle.store.specs.Standing.{Standing}
use Rattle.store.specs.declared.open_fault.OpenFault.{OpenFault}

-- whatever a call may open, if it is a store, it is such a one
abbrev pub Opens : {S : Type 0} → (Result S OpenFault → Type 0) → (S → Type 0) → Type 0
Opens {S} may_open IsSuch = (opened : Result S OpenFault) → may_open opened → IfOk opened IsSuch

-- after earlier deliveries the reply of the definition was printed, and the store holds the tables with this delivery
pub record Answers (building : Building) (earlier : List Delivery) (delivery : Delivery) (left : Standing)
    (old new : Option (List ℕ)) : Type 0 where
  pub printed : Appends old new (reply_line (reply building earlier delivery))
  pub holds : Holds building (earlier ++ delivery ∷ []) left

-- the bytes are a holiday list for the building, and the delivery is its import
abbrev pub IsImport : List ℕ → Building → Delivery → Type 0
IsImport bytes building delivery = import_of building bytes ≡ parsed.Delivery delivery

-- the delivery is what is asked over the building: the tick at the moment, or the import of the list's bytes, where these are known
abbrev pub Asks : {L : Type 0} → (L → Option (List ℕ)) → ClockDelivery L → Building → Delivery → Type 0
Asks {L} remaining (clock.Tick at) building delivery = delivery ≡ Tick at
Asks remaining (clock.Import list) building delivery =
    (bytes : List ℕ) → bytes_of remaining list.reader ≡ Some bytes → IsImport bytes building delivery

-- The file is a building, and the delivery that is asked of it was answered: after whatever list of deliveries the store
-- that was opened holds the tables of.
pub record IsAnswered {S : Type 0} (standing : S → Standing) (may_open : Result S OpenFault → Type 0)
    (IsAsked : Building → Delivery → Type 0) (file : List ℕ) (left : S) (old new : Option (List ℕ)) : Type 0 where
  pub building : Building
  pub building_is : building_of file ≡ Ok (contents_of building)
  pub delivery : Delivery
  pub asked : IsAsked building delivery
  pub answers : (earlier : List Delivery) → Opens may_open (λ store. Holds building earlier (standing store))
      → (standing left).is_honest → Answers building earlier delivery (standing left) old new
