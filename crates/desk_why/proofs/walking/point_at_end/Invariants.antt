use Rattle.std.proofs.Common.{◌++◌, List, take}
use Rattle.deliveries.specs.declared.delivery.Delivery.{Delivery}
use Rattle.deliveries.specs.Delivered.{Holds}
use Rattle.store_memory.specs.Memory.{standing_of}
use Rattle.desk_why.specs.AuthorsTable.{IsHeld}
use Rattle.desk_why.proofs.walking.point_at_end.Given as goal

-- the first deliveries are made, and the table has the places after them
abbrev pub invariant-loop-delivery : goal.invariant-loop-delivery
invariant-loop-delivery l = record {
  holds : (earlier : List Delivery) → Holds l.building earlier (standing_of l.fn.store)
      → Holds l.building (earlier ++ take l.delivery-index l.deliveries) (standing_of l.store);
  held : (earlier : List Delivery) → Holds l.building earlier (standing_of l.fn.store)
      → IsHeld l.building earlier (take l.delivery-index l.deliveries) l.authors l.point.name;
}
