-- The law of authors.
use Rattle.std.specs.Prelude.{◌≡◌, ℕ, List, ◌++◌, option_map}
use Rattle.std.specs.FinMap.{get}
use Rattle.building.specs.Building.{Building}
use Rattle.deliveries.specs.declared.delivery.Delivery.{Delivery}
use Rattle.deliveries.specs.Events.{machine}
use Rattle.points.specs.Texts.{Text}
use Rattle.desk_why.specs.declared.author.Held.{Held}
use Rattle.desk_why.specs.Authors.{held_of}

-- the value that the machine has in a place, after earlier deliveries and those of a record, is that of its author, and
-- there is none where there is no author
abbrev pub PlaceHasItsAuthorsValue : Type 0
PlaceHasItsAuthorsValue = (building : Building) (earlier deliveries : List Delivery) (point : Text) (priority : ℕ)
    → option_map (λ (held : Held). held.value) (held_of building earlier deliveries point priority)
    ≡ get ((machine building (earlier ++ deliveries)).places point) priority
