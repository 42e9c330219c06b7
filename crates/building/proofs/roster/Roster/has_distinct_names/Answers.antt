use Rattle.std.proofs.Common.{◌∙◌, List, map, sym, ap}
use Rattle.building.specs.Roster.{are_distinct}
use Rattle.building.proofs.roster.Roster.has_distinct_names.Goals as goal

pub returns : goal.returns
returns g c =
    let name_of = g.T.Named.name_of in
    sym (ap (λ (xs : List g.row.T.Denot). are_distinct (map name_of xs)) c.self.view_is) ∙ sym (ap are_distinct c.self.invariant.0)
    ∙ c.self.invariant.1
