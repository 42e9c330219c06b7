use Rattle.std.proofs.Common.{◌++◌, ◌∷◌, []}
use Rattle.std.proofs.lemmas.List.Elements.{All-weaker}
use Rattle.std.proofs.lemmas.Result.{on_ok_weaker}
use Rattle.points.specs.declared.point.Point.{Point}
use Rattle.desk_why.specs.AuthorsTable.{IsHeld}
use Rattle.desk_why.proofs.EventLemmas.{IsHeld-push}
use Rattle.desk_why.proofs.authors.Authors.follow.Goals as goal

pub returns-clause-held : goal.returns-clause-held
returns-clause-held c = λ E ds held are.
    let b = c.args.building.now in
    let d = c.args.delivery.now in
    let old = c.args.self.now in
    let new = c.make_delivery.new.authors in
    on_ok_weaker c.make_delivery.result
    (λ along. All-weaker (λ (p : Point). IsHeld b E ds old p.name) (λ (p : Point). IsHeld b E (ds ++ d ∷ []) new p.name)
    (λ p is. IsHeld-push b E ds d old new p.name along is) b.points are)
    (c.make_delivery.ensures.along (E ++ ds) held)

pub returns-clause-point : goal.returns-clause-point
returns-clause-point c = λ E ds point held is.
    on_ok_weaker c.make_delivery.result
    (λ along. IsHeld-push c.args.building.now E ds c.args.delivery.now c.args.self.now c.make_delivery.new.authors point along is)
    (c.make_delivery.ensures.along (E ++ ds) held)
