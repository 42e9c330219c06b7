use Rattle.std.proofs.Common.{◌≡◌, ◌∙◌, Some, None, sym, position, rules}
use Rattle.building.specs.Roster.{has_the_name}
use Rattle.building.proofs.RosterLemmas.{found_at, not_found}
use Rattle.building.proofs.roster.Roster.find.Goals as goal

pub returns-in_err-position : goal.returns-in_err-position
returns-in_err-position g c =
    let is_it = has_the_name g.T.Named.name_of c.args.name.now in
    let none : position is_it c.args.self.now ≡ None = sym c.position.ensures ∙ c.in_err-position.was in
    rw (c.from_residual.ensures) (sym (not_found is_it c.args.self.now none))

pub returns : goal.returns
returns g c =
    let is_it = has_the_name g.T.Named.name_of c.args.name.now in
    let place : position is_it c.args.self.now ≡ Some c.in_ok-position.field-0 = sym c.position.ensures ∙ c.in_ok-position.was in
    (search rules) ∙ found_at is_it c.args.self.now c.in_ok-position.field-0 place
