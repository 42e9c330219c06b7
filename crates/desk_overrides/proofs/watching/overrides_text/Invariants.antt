use Rattle.std.proofs.Common.{◌++◌, List, take}
use Rattle.deliveries.specs.declared.delivery.Delivery.{Delivery}
use Rattle.deliveries.specs.Delivered.{Holds}
use Rattle.store_memory.specs.Memory.{standing_of}
use Rattle.desk_why.specs.AuthorsTable.{AreHeld}
use Rattle.desk_overrides.specs.Watched.{AreWatched}
use Rattle.desk_overrides.proofs.watching.overrides_text.Given as goal

-- the first deliveries are made, and what is known of the overrides then
abbrev pub invariant-loop-delivery : goal.invariant-loop-delivery
invariant-loop-delivery l = record {
  holds : (earlier : List Delivery) → Holds l.building earlier (standing_of l.initial.store)
      → Holds l.building (earlier ++ take l.delivery-index l.deliveries) (standing_of l.store);
  held : (earlier : List Delivery) → Holds l.building earlier (standing_of l.initial.store)
      → AreHeld l.building earlier (take l.delivery-index l.deliveries) l.authors;
  watched : (earlier : List Delivery) → Holds l.building earlier (standing_of l.initial.store)
      → AreWatched l.building earlier (take l.delivery-index l.deliveries) l.watches.items;
}
