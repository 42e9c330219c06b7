use Rattle.std.proofs.Common.{◌≡◌, ◌++◌, [], take}
use Rattle.std.specs.List.{flat_map}
use Rattle.deliveries.specs.Delivered.{Holds}
use Rattle.store_memory.specs.Memory.{standing_of}
use Rattle.deliveries.specs.StraightList.{parked_of, straightened_after}
use Rattle.desk_straighten.proofs.straightening.straight_list.Given as goal

-- the first deliveries are run, and what they became is collected
abbrev pub invariant-loop-delivery : goal.invariant-loop-delivery
invariant-loop-delivery l = record {
  holds : Holds l.building (take l.delivery-index l.deliveries) (standing_of l.store);
  straightened : l.straightened.items ≡ straightened_after l.building [] (take l.delivery-index l.deliveries);
}

-- all are, and so are the parked commands of the first panels
abbrev pub invariant-loop-panel : goal.invariant-loop-panel
invariant-loop-panel l = record {
  holds : Holds l.building l.deliveries (standing_of l.store);
  straightened : l.straightened.items ≡ straightened_after l.building [] l.deliveries
      ++ flat_map (parked_of l.building l.deliveries) (take l.panel-index l.building.panels);
}
