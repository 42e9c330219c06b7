use Rattle.std.proofs.Common.{◌∙◌, ℕ, List, [], ◌∷◌, ◌++◌, map, sym, ap}
use Rattle.points.specs.NameIndex.{is_among}
use Rattle.building.specs.Roster.{are_distinct, has_name}
use Rattle.building.proofs.RosterLemmas.{among-map, distinct_pushed, names_pushed}
use Rattle.building.proofs.roster.Roster.push.Goals as goal

pub push_name-requires : goal.push_name-requires
push_name-requires g c =
    let name_of = g.T.Named.name_of in
    let name = name_of c.args.item in
    record {
      new = ap (λ (n : List ℕ). is_among n c.self.inside.names) c.name.ensures
          ∙ ap (is_among name) c.self.invariant.0 ∙ among-map name_of name c.self.inside.items.items
          ∙ ap (has_name name_of name) c.self.view_is ∙ c.requires.new;
    }

pub invariant_of-self-2 : goal.invariant_of-self-2
invariant_of-self-2 g c =
    let name_of = g.T.Named.name_of in
    let pushed = c.in_ok-push_name.ensures.pushed ∙ ap (λ (n : List ℕ). c.self.inside.names ++ n ∷ []) c.name.ensures in
    let new = ap (λ (names : List (List ℕ)). is_among (name_of c.args.item) names) c.self.invariant.0
    ∙ among-map name_of (name_of c.args.item) c.self.inside.items.items
    ∙ ap (has_name name_of (name_of c.args.item)) c.self.view_is ∙ c.requires.new in (
      pushed
          ∙ names_pushed name_of c.self.inside.names c.self.inside.items.items c.args.item c.self.invariant.0
          ∙ ap (λ (xs : List g.row.T.Denot). map name_of (xs ++ c.args.item ∷ [])) (sym c.in_ok-reserve.ensures.items)
          ∙ ap (map name_of) (sym c.in_ok-push.ensures.items),
      ap are_distinct pushed ∙ distinct_pushed (name_of c.args.item) c.self.inside.names c.self.invariant.1 new,
    )
