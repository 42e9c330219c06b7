-- The same delivery twice in a row.
use Rattle.std.specs.Prelude.{◌≡◌, List, [], ◌∷◌, ◌++◌}
use Rattle.building.specs.Building.{Building}
use Rattle.deliveries.specs.declared.delivery.Delivery.{Delivery}
use Rattle.deliveries.specs.Laws.{HasDistinctSchedules}
use Rattle.deliveries.specs.Tables.{tables}

-- each delivery, of whatever kind: twice in a row it leaves the tables that it leaves once
abbrev pub TwiceLeavesTheTables : Type 0
TwiceLeavesTheTables = (building : Building) (earlier : List Delivery) (delivery : Delivery) → HasDistinctSchedules building
    → tables building (earlier ++ delivery ∷ delivery ∷ []) ≡ tables building (earlier ++ delivery ∷ [])
