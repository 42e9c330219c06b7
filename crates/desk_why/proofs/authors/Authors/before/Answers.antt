use Rattle.std.proofs.Common.{◌≡◌, ◌∙◌, ◌||◌, ◌<◌, Bool, length, take, refl, ap, subst, arith}
use Rattle.std.specs.Str.{bytes_eq}
use Rattle.std.proofs.lemmas.List.{take_all}
use Rattle.points.specs.Texts.{Text}
use Rattle.store.specs.Standing.{Content}
use Rattle.store_memory.specs.Memory.{standing_of}
use Rattle.desk_why.specs.Steps.{HaveBegun}
use Rattle.desk_why.proofs.BeginLemmas.{AreHeld-begun, begun-more, is_named}
use Rattle.desk_why.proofs.authors.Authors.before.Goals as goal

pub loop-point-init : goal.loop-point-init
loop-point-init c = record {
  same = refl;
  begun = c.new-authors.ensures (standing_of c.args.store.now).content.tables.places;
}

pub loop-point-preserved : goal.loop-point-preserved
loop-point-preserved c =
    let points = c.points-point-items.result.now in
    let at = c.loop-point.point-index in
    let p = c.point-item.result in
    let below : at < length points = omega (arith, c.loop-point-test.true) in
    let so_far = c.loop-point.invariant in
    record {
      same = c.in_ok-begin_at.ensures.same ∙ so_far.same;
      begun = begun-more (standing_of c.args.store.now).content.tables.places points at p below c.point-item.is c.begin_at.new.self
          (subst (λ (content : Content). (test : Text → Bool) → HaveBegun content.tables.places test c.loop-point.authors
          → HaveBegun content.tables.places (λ q. test q || bytes_eq p.name q) c.begin_at.new.self)
          so_far.same c.in_ok-begin_at.ensures.begun (is_named (take at points)) so_far.begun);
    }

pub returns-clause-held : goal.returns-clause-held
returns-clause-held c = λ E held.
    let points = c.points-point-items.result.now in
    let at = c.loop-point.point-index in
    let all : take at points ≡ points = take_all at points (omega (arith, c.loop-point-test.false)) in
    AreHeld-begun c.args.building.now E (standing_of c.args.store.now) held (is_named (take at points)) c.loop-point.authors
    c.loop-point.invariant.begun (ap is_named (all ∙ c.points-point-items.ensures))
