use Rattle.std.proofs.Common.{◌≡◌, [], IsTrue, drop}
use Rattle.std.specs.List.{list_all}
use Rattle.toml.specs.View.{items_view}
use Rattle.building.specs.Reference.{each_reference, is_named}
use Rattle.building.proofs.reference.read_references.Given as goal

abbrev pub invariant-loop-item : goal.invariant-loop-item
invariant-loop-item g l =
    (each_reference l.fields.location l.key g.T.Named.name_of l.there [] (items_view l.items)
    ≡ each_reference l.fields.location l.key g.T.Named.name_of l.there l.names (items_view (drop l.item-index l.items)))
    × IsTrue (list_all (is_named g.T.Named.name_of l.there) l.names)
