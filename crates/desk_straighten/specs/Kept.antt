-- What a store in memory holds while a list is straightened.
use Rattle.std.specs.Prelude.{List}
use Rattle.building.specs.Building.{Building}
use Rattle.deliveries.specs.declared.delivery.Delivery.{Delivery}
use Rattle.deliveries.specs.Delivered.{Holds}
use Rattle.store.specs.Standing.{Standing}

-- the tables of some list of deliveries
pub record HoldsSome (building : Building) (standing : Standing) : Type 0 where
  pub earlier : List Delivery
  pub holds : Holds building earlier standing
