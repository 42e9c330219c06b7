use Rattle.std.proofs.Common.{◌≡◌, ◌++◌, IsTrue, drop}
use Rattle.std.specs.List.{list_all}
use Rattle.points.specs.FaultSteps.{result_map}
use Rattle.toml.specs.View.{items_view}
use Rattle.building.specs.Items.{each_item}
use Rattle.building.proofs.item_list.read_items.Given as goal

abbrev pub invariant-loop-item : goal.invariant-loop-item
invariant-loop-item g l =
    (each_item (g.R.ReadItem.meaning l.reader) (items_view l.items) ≡ result_map
    (λ rest. l.values.items ++ rest)
    (each_item (g.R.ReadItem.meaning l.reader) (items_view (drop l.item-index l.items))))
    × IsTrue (list_all (g.R.ReadItem.is_sound l.reader) l.values.items)
