-- How the lines of a list are read, one after another.
use Rattle.std.specs.Prelude.{◌≡◌, ℕ, Bool, true, false, List, [], ◌∷◌, ◌++◌, Option, Some}
use Rattle.std.specs.Option.{option_to_list}
use Rattle.building.specs.Building.{Building}
use Rattle.deliveries.specs.declared.delivery.Delivery.{Delivery}
use Rattle.delivery_json.specs.declared.parsed_line.ParsedLine.{ParsedLine}
use Rattle.desk_cli.specs.Replay.{deliveries_in, lines_of, parsed_by}

-- the first line of the bytes was read, and the bytes of the others are left; or they have no line
abbrev pub TakesLine : List ℕ → Bool → List ℕ → Option (List ℕ) → Type 0
TakesLine bytes true line left = (others : List ℕ) × (left ≡ Some others) × (lines_of bytes ≡ line ∷ lines_of others)
TakesLine bytes false line left = lines_of bytes ≡ []

-- each of the lines can be read, and the deliveries among them were added
pub record Collects (building : Building) (lines : List (List ℕ)) (old new : List Delivery) : Type 0 where
  pub read : List ParsedLine
  pub read_is : parsed_by building lines ≡ Some read
  pub added : new ≡ old ++ deliveries_in read

-- what a line tells adds a delivery, or none
abbrev pub tells : Building → List ℕ → Option Delivery → Type 0
tells building line delivery = Collects building (line ∷ []) [] (option_to_list delivery)
