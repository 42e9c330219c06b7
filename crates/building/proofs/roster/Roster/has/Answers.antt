use Rattle.std.proofs.Common.{◌∙◌, ap}
use Rattle.points.specs.NameIndex.{is_among}
use Rattle.building.specs.Roster.{has_name}
use Rattle.building.proofs.RosterLemmas.{among-map}
use Rattle.building.proofs.roster.Roster.has.Goals as goal

pub returns : goal.returns
returns g c =
    let name_of = g.T.Named.name_of in
    let name = c.args.name.now in
    c.contains.ensures ∙ ap (is_among name) c.self.invariant.0 ∙ among-map name_of name c.self.inside.items.items
    ∙ ap (has_name name_of name) c.self.view_is
