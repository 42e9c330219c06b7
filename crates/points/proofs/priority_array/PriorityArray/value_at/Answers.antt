use Rattle.std.proofs.Common.{◌≡◌, suc, sym, ◌∙◌, subst, arith}
use Rattle.std.specs.FinMap.{get}
use Rattle.points.specs.PriorityArray.{HasSixteenPlaces}
use Rattle.points.proofs.PlacesLemmas.{get-numbered, sixteen_places}
use Rattle.points.proofs.priority_array.PriorityArray.value_at.Goals as goal

pub returns-clause-value : goal.returns-clause-value
returns-clause-value c =
    let number : suc c.from-index.result ≡ c.args.priority = omega arith in
    sym (get-numbered c.self.inside.places c.from-index.result) ∙ (λ i. get (c.self.view_is i) (number i))

pub returns-clause-places : goal.returns-clause-places
returns-clause-places c = subst HasSixteenPlaces c.self.view_is (sixteen_places c.self.inside.places c.self.invariant)
