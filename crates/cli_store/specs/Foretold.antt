-- What an import would be answered.
use Rattle.std.specs.Prelude.{◌≡◌, ℕ, List, Option, Result, Ok}
use Rattle.std.specs.Io.KnownBytes.{Appends}
use Rattle.building.specs.Building.{Building, contents_of}
use Rattle.building.specs.BuildingFile.{building_of}
use Rattle.cli_base.specs.Base.{BeginsOn, IsHonest, IsOnlyRead}
use Rattle.deliveries.specs.declared.delivery.Delivery.{Delivery}
use Rattle.deliveries.specs.Reply.{reply}
use Rattle.delivery_json.specs.ReplyText.{reply_line}
use Rattle.store.specs.declared.open_fault.OpenFault.{OpenFault}
use Rattle.store.specs.Standing.{Standing}

-- The file is a building, the delivery is what is asked of it, and its reply was printed: the one that it would get after
-- whatever list of deliveries the store that was found holds the tables of.
pub record IsForetold {S : Type 0} (standing : S → Standing) (may_find : Result (Option S) OpenFault → Type 0)
    (IsAsked : Building → Delivery → Type 0) (file : List ℕ) (left : Option S) (old new : Option (List ℕ)) : Type 0 where
  pub building : Building
  pub building_is : building_of file ≡ Ok (contents_of building)
  pub delivery : Delivery
  pub asked : IsAsked building delivery
  pub found : Option S
  pub is_found : may_find (Ok found)
  pub only_read : IsOnlyRead standing found left
  pub foretells : (earlier : List Delivery) → BeginsOn standing building earlier found → IsHonest standing left
      → Appends old new (reply_line (reply building earlier delivery))
