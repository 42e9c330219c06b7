-- What is printed where a list is straightened: a line for each delivery of its straight list, and no other text.
use Rattle.std.specs.Prelude.{◌≡◌, ◌⊎◌, ℕ, List, Option, Some, Ok}
use Rattle.std.specs.List.{flat_map}
use Rattle.std.specs.Io.KnownBytes.{Appends, Keeps}
use Rattle.building.specs.Building.{Building, contents_of}
use Rattle.building.specs.BuildingFile.{building_of}
use Rattle.deliveries.specs.declared.delivery.Delivery.{Delivery}
use Rattle.deliveries.specs.StraightList.{straight_list}
use Rattle.delivery_json.specs.declared.parsed_line.ParsedLine.{ParsedLine}
use Rattle.delivery_json.specs.DeliveryText.{delivery_line}
use Rattle.points.specs.Beginnings.{AppendsStart}
use Rattle.desk_cli.specs.Replay.{deliveries_in, lines_of, parsed_by}

-- the lines of the straight list of some deliveries
abbrev pub straight_lines : Building → List Delivery → List ℕ
straight_lines building deliveries = flat_map (delivery_line building) (straight_list building deliveries)

-- the file is a building, each line of the list can be read, and the straight list of the deliveries among them was
-- printed
pub record Straightens (file list : List ℕ) (old new : Option (List ℕ)) : Type 0 where
  pub building : Building
  pub read : List ParsedLine
  pub building_is : building_of file ≡ Ok (contents_of building)
  pub read_is : parsed_by building (lines_of list) ≡ Some read
  pub printed : Appends old new (straight_lines building (deliveries_in read))

-- the same, but that a beginning of it was printed
pub record StraightensStart (file list : List ℕ) (old new : Option (List ℕ)) : Type 0 where
  pub building : Building
  pub read : List ParsedLine
  pub building_is : building_of file ≡ Ok (contents_of building)
  pub read_is : parsed_by building (lines_of list) ≡ Some read
  pub printed : AppendsStart old new (straight_lines building (deliveries_in read))

-- nothing was printed; or a beginning of that straight list was
abbrev pub StraightensNoMore : List ℕ → List ℕ → Option (List ℕ) → Option (List ℕ) → Type 0
StraightensNoMore file list old new = Keeps old new ⊎ StraightensStart file list old new
