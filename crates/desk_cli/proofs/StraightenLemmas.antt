-- The straight list, printed whole or in part.
use Rattle.std.proofs.Common.{◌≡◌, ℕ, ◌+◌, ◌<◌, ◌++◌, List, [], ◌∷◌, length, take, get_or, Ok, Option, ap, subst, sym, ◌∙◌}
use Rattle.std.proofs.Common.{inl, inr, ⊎_elim}
use Rattle.std.proofs.lemmas.Grind.{flat_map-append}
use Rattle.std.proofs.lemmas.List.{append-nil, take_more}
use Rattle.std.specs.List.{flat_map}
use Rattle.std.specs.Io.KnownBytes.{Appends, Keeps}
use Rattle.building.specs.Building.{Building, contents_of}
use Rattle.building.specs.BuildingFile.{building_of}
use Rattle.deliveries.specs.declared.delivery.Delivery.{Delivery}
use Rattle.deliveries.specs.StraightList.{straight_list}
use Rattle.delivery_json.specs.DeliveryText.{delivery_line}
use Rattle.points.specs.Beginnings.{AppendsStart}
use Rattle.cli_common.proofs.PrintedLemmas.{Appends-Keeps, start-Keeps}
use Rattle.desk_cli.specs.ListLines.{Collects}
use Rattle.desk_cli.specs.Replay.{deliveries_in, lines_of}
use Rattle.desk_cli.specs.Straighten.{Straightens, StraightensNoMore, straight_lines}
use Rattle.desk_cli.proofs.StopLemmas.{Keeps-Keeps}

-- one delivery more
pub lines-then : (b : Building) (ds : List Delivery) (i : ℕ) (d : Delivery) (line : List ℕ) → i < length ds → d ≡ get_or ds i d
    → line ≡ delivery_line b d → flat_map (delivery_line b) (take (i + 1) ds) ≡ flat_map (delivery_line b) (take i ds) ++ line
lines-then b ds i d line within item line_is =
    let this : line ≡ delivery_line b (get_or ds i d) = line_is ∙ ap (delivery_line b) item in
    ap (flat_map (delivery_line b)) (take_more ds i d within) ∙ flat_map-append (delivery_line b) (take i ds) (get_or ds i d ∷ [])
    ∙ ap (λ l. flat_map (delivery_line b) (take i ds) ++ l) (append-nil (delivery_line b (get_or ds i d)) ∙ sym this)

-- the lines that are printed are those of the definition
lines_are : (b : Building) (deliveries read straight : List Delivery) → deliveries ≡ read → straight ≡ straight_list b deliveries
    → flat_map (delivery_line b) straight ≡ straight_lines b read
lines_are b deliveries read straight same is = ap (flat_map (delivery_line b)) (is ∙ ap (straight_list b) same)

pub straightens_whole : (file list : List ℕ) (b : Building) (deliveries straight : List Delivery) (old mid new : Option (List ℕ))
    → building_of file ≡ Ok (contents_of b) → Collects b (lines_of list) [] deliveries → straight ≡ straight_list b deliveries
    → Appends old mid (flat_map (delivery_line b) straight) → Keeps mid new → Straightens file list old new
straightens_whole file list b deliveries straight old mid new file_is collects is printed kept = record {
  building = b;
  read = collects.read;
  building_is = file_is;
  read_is = collects.read_is;
  printed = subst (λ text. Appends old new text)
      (lines_are b deliveries (deliveries_in collects.read) straight collects.added is) (Appends-Keeps old mid new _ printed kept);
}

pub straightens_start : (file list : List ℕ) (b : Building) (deliveries straight : List Delivery) (old mid new : Option (List ℕ))
    → building_of file ≡ Ok (contents_of b) → Collects b (lines_of list) [] deliveries → straight ≡ straight_list b deliveries
    → AppendsStart old mid (flat_map (delivery_line b) straight) → Keeps mid new → StraightensNoMore file list old new
straightens_start file list b deliveries straight old mid new file_is collects is printed kept = inr (record {
  building = b;
  read = collects.read;
  building_is = file_is;
  read_is = collects.read_is;
  printed = subst (λ text. AppendsStart old new text)
      (lines_are b deliveries (deliveries_in collects.read) straight collects.added is) (start-Keeps old mid new _ printed kept);
})

-- what is printed stays printed
pub straightens-Keeps : (file list : List ℕ) (old mid new : Option (List ℕ)) → StraightensNoMore file list old mid → Keeps mid new
    → StraightensNoMore file list old new
straightens-Keeps file list old mid new printed kept = ⊎_elim
    (λ nothing. inl (Keeps-Keeps old mid new nothing kept))
    (λ some. inr (record {
      building = some.building;
      read = some.read;
      building_is = some.building_is;
      read_is = some.read_is;
      printed = start-Keeps old mid new _ some.printed kept;
    }))
    printed
