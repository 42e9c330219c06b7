-- What a request leaves of how the record and the store stand to each other.
use Rattle.std.specs.Prelude.{List}
use Rattle.building.specs.Building.{Building}
use Rattle.deliveries.specs.declared.delivery.Delivery.{Delivery}
use Rattle.desk_record.specs.Recorded.{InStep}
use Rattle.desk_record.specs.RecordStanding.{RecordStanding}
use Rattle.store.specs.Standing.{Standing}

-- a store and a record that are honest afterwards were so before, and where they were in step, after whatever earlier
-- deliveries, they are
pub record KeepsStep (building : Building) (old_record new_record : RecordStanding) (old new : Standing) : Type 0 where
  pub honest : new.is_honest → old.is_honest
  pub honest_record : new_record.is_honest → old_record.is_honest
  pub in_step : (earlier : List Delivery) → new.is_honest → new_record.is_honest → InStep building earlier old_record old
      → InStep building earlier new_record new
