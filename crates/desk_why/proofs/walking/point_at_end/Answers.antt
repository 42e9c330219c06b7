use Rattle.std.proofs.Common.{◌≡◌, ◌∙◌, ◌++◌, ◌∷◌, [], List, take, sym, ap, subst, arith, append_assoc}
use Rattle.std.proofs.lemmas.List.{append-nil, take_all}
use Rattle.deliveries.specs.declared.delivery.Delivery.{Delivery}
use Rattle.deliveries.specs.Delivered.{Holds}
use Rattle.store_memory.specs.Memory.{standing_of}
use Rattle.desk_why.specs.AuthorsTable.{IsHeld}
use Rattle.desk_straighten.proofs.LoopLemmas.{taken-more}
use Rattle.desk_why.proofs.walking.point_at_end.Goals as goal

pub loop-delivery-init : goal.loop-delivery-init
loop-delivery-init c = record {
  holds = λ E held. subst (λ (F : List Delivery). Holds c.args.building.now F (standing_of c.before_at.new.store)) (sym (append-nil E))
      (c.in_ok-authors.ensures.same ∙ held);
  held = λ E held. c.in_ok-authors.ensures.held c.args.building.now E held;
}

pub loop-delivery-preserved : goal.loop-delivery-preserved
loop-delivery-preserved c =
    let b = c.args.building.now in
    let name = c.args.point.now.name in
    let ds = take c.loop-delivery.delivery-index c.args.deliveries.now in
    let d = c.delivery-item.result in
    let more =
    taken-more c.args.deliveries.now c.loop-delivery.delivery-index d (omega (arith, c.loop-delivery-test.true)) c.delivery-item.is in
    let so_far = c.loop-delivery.invariant in
    record {
      holds = λ E held. subst (λ (F : List Delivery). Holds b F (standing_of c.follow.new.store))
          (append_assoc E ds (d ∷ []) ∙ ap (λ (F : List Delivery). E ++ F) (sym more))
          (c.in_ok-follow.ensures.holds (E ++ ds) (so_far.holds E held));
      held = λ E held. subst (λ (F : List Delivery). IsHeld b E F c.follow.new.self name) (sym more)
          (c.in_ok-follow.ensures.point E ds name (so_far.holds E held) (so_far.held E held));
    }

pub returns-clause-present : goal.returns-clause-present
returns-clause-present c = λ E before.
    let ds = c.args.deliveries.now in
    let all : take c.loop-delivery.delivery-index ds ≡ ds = take_all c.loop-delivery.delivery-index ds (omega (arith, c.loop-delivery-test.false)) in
    c.point_now.ensures.present (E ++ ds)
    (subst (λ (F : List Delivery). Holds c.args.building.now (E ++ F) (standing_of c.loop-delivery.store)) all (c.loop-delivery.invariant.holds E before))

pub returns-clause-places : goal.returns-clause-places
returns-clause-places c = λ E before.
    let b = c.args.building.now in
    let ds = c.args.deliveries.now in
    let all : take c.loop-delivery.delivery-index ds ≡ ds = take_all c.loop-delivery.delivery-index ds (omega (arith, c.loop-delivery-test.false)) in
    c.point_now.ensures.places E ds
    (subst (λ (F : List Delivery). IsHeld b E F c.loop-delivery.authors c.args.point.now.name) all (c.loop-delivery.invariant.held E before))

pub returns-clause-next : goal.returns-clause-next
returns-clause-next c = λ E before.
    let ds = c.args.deliveries.now in
    let all : take c.loop-delivery.delivery-index ds ≡ ds = take_all c.loop-delivery.delivery-index ds (omega (arith, c.loop-delivery-test.false)) in
    c.point_now.ensures.next (E ++ ds)
    (subst (λ (F : List Delivery). Holds c.args.building.now (E ++ F) (standing_of c.loop-delivery.store)) all (c.loop-delivery.invariant.holds E before))
