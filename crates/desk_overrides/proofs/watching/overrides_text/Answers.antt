use Rattle.std.proofs.Common.{◌≡◌, ◌∙◌, ◌+◌, ◌++◌, ◌∷◌, [], List, take, append_assoc, ap, arith, subst, sym}
use Rattle.std.proofs.lemmas.List.{take_all, take_more}
use Rattle.deliveries.specs.declared.delivery.Delivery.{Delivery}
use Rattle.deliveries.specs.Delivered.{Holds}
use Rattle.store_memory.specs.Memory.{standing_of}
use Rattle.desk_why.specs.AuthorsTable.{AreHeld}
use Rattle.desk_overrides.specs.Overrides.{looks}
use Rattle.desk_overrides.specs.Watched.{AreWatched}
use Rattle.desk_overrides.proofs.WatchingLemmas.{last-of, text-is}
use Rattle.desk_overrides.proofs.watching.overrides_text.Goals as goal

pub loop-delivery-preserved : goal.loop-delivery-preserved
loop-delivery-preserved c =
    let b = c.args.building.now in
    let ds = take c.loop-delivery.delivery-index c.args.deliveries.now in
    let d = c.delivery-item.result in
    let more : take (c.loop-delivery.delivery-index + 1) c.args.deliveries.now ≡ ds ++ d ∷ [] =
    take_more c.args.deliveries.now c.loop-delivery.delivery-index d (omega (arith, c.loop-delivery-test.true))
    ∙ ap (λ x. ds ++ x ∷ []) (sym c.delivery-item.is) in
    let so_far = c.loop-delivery.invariant in
    let step = c.in_ok-watches-2.ensures in
    record {
      holds = λ E begun. subst (λ (F : List Delivery). Holds b F (standing_of c.watched_on.new.store))
          (append_assoc E ds (d ∷ []) ∙ ap (λ (F : List Delivery). E ++ F) (sym more)) (step.holds (E ++ ds) (so_far.holds E begun));
      held = λ E begun. subst (λ (F : List Delivery). AreHeld b E F c.watched_on.new.authors) (sym more)
          (step.held E ds (so_far.holds E begun) (so_far.held E begun));
      watched = λ E begun. subst (λ (F : List Delivery). AreWatched b E F c.in_ok-watches-2.watches.items) (sym more)
          (step.watched E ds (so_far.holds E begun) (so_far.held E begun) (so_far.watched E begun));
    }

pub returns : goal.returns
returns c = λ E before.
    let b = c.args.building.now in
    let ds = c.args.deliveries.now in
    let begun = c.in_ok-authors.ensures.same ∙ before in
    let all : take c.loop-delivery.delivery-index ds ≡ ds = take_all c.loop-delivery.delivery-index ds (omega (arith, c.loop-delivery-test.false)) in
    let held = subst (λ (F : List Delivery). Holds b (E ++ F) (standing_of c.loop-delivery.store)) all (c.loop-delivery.invariant.holds E begun) in
    let watched = subst (λ (F : List Delivery). AreWatched b E F c.loop-delivery.watches.items) all (c.loop-delivery.invariant.watched E begun) in
    text-is b E ds c.in_ok-last.last c.args.from c.loop-delivery.watches.items _
    (c.in_ok-last.ensures.value tt ∙ last-of b (E ++ ds) (standing_of c.loop-delivery.store) held)
    watched.points (c.in_ok-lines_of.ensures (looks b E [] ds) watched.known)
