use Rattle.std.proofs.Common.{◌∙◌, ℕ, List, ap, bytes_eq, position}
use Rattle.building.specs.Roster.{has_the_name}
use Rattle.building.proofs.RosterLemmas.{position-map}
use Rattle.building.proofs.roster.Roster.position.Goals as goal

pub returns : goal.returns
returns g c =
    let name_of = g.T.Named.name_of in
    let name = c.args.name.now in
    let is_it = λ (n : List ℕ). bytes_eq n name in
    c.position.ensures ∙ ap (position is_it) c.self.invariant.0 ∙ position-map name_of is_it c.self.inside.items.items
    ∙ ap (position (has_the_name name_of name)) c.self.view_is
