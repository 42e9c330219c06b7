-- What is printed where it is asked what a list explains.
use Rattle.std.specs.Prelude.{◌≡◌, ◌⊎◌, ℕ, ℤ, List, Option, Some, Ok}
use Rattle.std.specs.Io.KnownBytes.{Appends, Keeps}
use Rattle.building.specs.Building.{Building, contents_of}
use Rattle.building.specs.BuildingFile.{building_of}
use Rattle.deliveries.specs.declared.delivery.Delivery.{Delivery}
use Rattle.delivery_json.specs.declared.parsed_line.ParsedLine.{ParsedLine}
use Rattle.desk_cli.specs.declared.question.Asked.{Asked}
use Rattle.desk_cli.specs.declared.question.Question.{Question}
use Rattle.desk_cli.specs.Question.{Means, explanation}
use Rattle.desk_cli.specs.Replay.{deliveries_in, lines_of, lines_until, parsed_by}
use Rattle.points.specs.Beginnings.{AppendsStart}
use Rattle.points.specs.Texts.{Text}
use Rattle.desk_cli.specs.Until.{IsUntil}

-- the file is a building, the question means something of it, each line of the list up to the moment that is said tells
-- something, and these deliveries and what is asked are so
pub record Asks (file list : List ℕ) (question : Question) (said : Option Text) : Type 0 where
  pub building : Building
  pub asked : Asked
  pub until : Option ℤ
  pub read : List ParsedLine
  pub building_is : building_of file ≡ Ok (contents_of building)
  pub asked_is : Means building question asked
  pub until_is : IsUntil building said until
  pub read_is : parsed_by building (lines_until building until (lines_of list)) ≡ Some read

-- and what is asked after these deliveries, behind earlier ones, was printed
abbrev pub Explains : (file : List ℕ) → List Delivery → (list : List ℕ) → Question → Option Text → Option (List ℕ) → Option (List ℕ) → Type 0
Explains file earlier list question said old new = (asks : Asks file list question said)
    × Appends old new (explanation asks.building earlier (deliveries_in asks.read) asks.asked asks.until)

-- nothing was printed; or a beginning of that was
abbrev pub ExplainsNoMore : (file : List ℕ) → List Delivery → (list : List ℕ) → Question → Option Text
    → Option (List ℕ) → Option (List ℕ) → Type 0
ExplainsNoMore file earlier list question said old new = Keeps old new ⊎ ((asks : Asks file list question said)
    × AppendsStart old new (explanation asks.building earlier (deliveries_in asks.read) asks.asked asks.until))
