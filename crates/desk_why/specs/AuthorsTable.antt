-- The table of authors, which is carried along while deliveries are made: what it has of the points of a building.
use Rattle.std.specs.Prelude.{◌≡◌, ℕ, Bool, ◌&&◌, ◌==◌, List, Option}
use Rattle.std.specs.HashMap as hash
use Rattle.std.specs.List.{All}
use Rattle.std.specs.Str.{bytes_eq}
use Rattle.building.specs.Building.{Building}
use Rattle.deliveries.specs.declared.delivery.Delivery.{Delivery}
use Rattle.points.specs.declared.point.Point.{Point}
use Rattle.points.specs.Texts.{Text}
use Rattle.desk_why.specs.declared.author.Held.{Held}
use Rattle.desk_why.specs.declared.authors.Authors.{Authors}
use Rattle.desk_why.specs.declared.authors.PlaceName.{PlaceName}
use Rattle.desk_why.specs.Authors.{held_of}

abbrev pub is_same_place : PlaceName → PlaceName → Bool
is_same_place place other = bytes_eq place.point other.point && place.priority == other.priority

-- what the table has in a point's place
abbrev pub held_in : Authors → Text → ℕ → Option Held
held_in authors point priority = hash.get is_same_place authors.held (record { point = point; priority = priority })

-- at each priority of a point it has what the place holds after the deliveries of a record that begins behind earlier ones
abbrev pub IsHeld : Building → (earlier deliveries : List Delivery) → Authors → Text → Type 0
IsHeld building earlier deliveries authors point =
    (priority : ℕ) → held_in authors point priority ≡ held_of building earlier deliveries point priority

-- and so of each point of the building
abbrev pub AreHeld : Building → (earlier deliveries : List Delivery) → Authors → Type 0
AreHeld building earlier deliveries authors =
    All (λ (point : Point). IsHeld building earlier deliveries authors point.name) building.points
