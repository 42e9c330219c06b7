use Rattle.std.proofs.Common.{◌≡◌, ◌∙◌, ◌++◌, ◌∷◌, ◌+◌, [], None, length, length-append, take, refl, sym, ap, subst, arith, Ok, Err}
use Rattle.std.proofs.lemmas.List.{take_more}
use Rattle.store.proofs.ReadLemmas.{stays_open}
use Rattle.building.specs.Building.{Building}
use Rattle.deliveries.specs.declared.delivery.Delivery.{Delivery}
use Rattle.deliveries.specs.Delivered.{Delivers, Holds}
use Rattle.desk.proofs.RunLemmas.{changes_each_stopped, changes_each_whole, ends-failed, follows_more, run-more, Stands-after}
use Rattle.desk.proofs.operating.Desk.run.Goals as goal

pub returns-in-Err-clause-headline : goal.returns-in-Err-clause-headline
returns-in-Err-clause-headline g c = λ E honest held.
    let so_far = c.loop-delivery.invariant in
    let b = c.args.self.now.building in
    let at = c.loop-delivery.delivery-index in
    let all = c.args.deliveries.now in
    let ds = take at all in
    let d = c.delivery-item.result in
    let old = g.S.Store.standing c.loop-delivery.self.store in
    let new = g.S.Store.standing c.deliver.new.self.store in
    let before = c.in-Err.ensures.goes.honest honest in
    let done = so_far.so_far E before held in
    let here : Holds c.loop-delivery.self.building (E ++ ds) old =
    subst (λ (x : Building). Holds x (E ++ ds) old) (sym so_far.building) done.1 in
    let delivered = subst (λ (x : Building). Delivers x (E ++ ds) d (Err c.in-Err.fault) new) so_far.building
    (c.in-Err.ensures.delivers (E ++ ds) honest here) in
    let more : take (at + 1) all ≡ ds ++ d ∷ [] =
    take_more all at d (omega (arith, c.loop-delivery-test.true)) ∙ ap (λ (x : Delivery). ds ++ x ∷ []) (sym c.delivery-item.is) in
    record {
      count = at;
      within = omega (arith, c.loop-delivery-test.true);
      replies_are = done.0;
      ends =
          ends-failed b E all d at c.in-Err.fault old new (omega (arith, c.loop-delivery-test.true)) more so_far.opened
          c.in-Err.ensures.goes delivered;
    }

pub loop-delivery-preserved : goal.loop-delivery-preserved
loop-delivery-preserved g c =
    let so_far = c.loop-delivery.invariant in
    let first = g.S.Store.standing c.args.self.now.store in
    let old = g.S.Store.standing c.loop-delivery.self.store in
    let new = g.S.Store.standing c.deliver.new.self.store in
    record {
      building = c.in-Ok.ensures.building ∙ so_far.building;
      count = omega (arith, c.push_reserved.ensures.len, so_far.count);
      sized = ap length c.push_reserved.ensures.items ∙ length-append c.loop-delivery.replies.items (c.in-Ok.reply ∷ [])
          ∙ ap (λ n. n + 1) so_far.sized;
      room = omega (arith, c.push_reserved.ensures.capacity, so_far.room);
      stands = Stands-after None first old new so_far.stands c.in-Ok.ensures.goes;
      opened = λ some. stays_open old new c.in-Ok.ensures.goes;
      follows = λ honest. follows_more c.loop-delivery.delivery-index first.content old.content new.content
          (so_far.follows (c.in-Ok.ensures.goes.honest honest)) (c.in-Ok.ensures.changes_once.made honest refl);
      so_far = λ E honest held.
          let done = so_far.so_far E (c.in-Ok.ensures.goes.honest honest) held in
          let ds = take c.loop-delivery.delivery-index c.args.deliveries.now in
          let here : Holds c.loop-delivery.self.building (E ++ ds) old =
          subst (λ (x : Building). Holds x (E ++ ds) old) (sym so_far.building) done.1 in
          let delivered = subst (λ (x : Building). Delivers x (E ++ ds) c.delivery-item.result (Ok c.in-Ok.reply) new) so_far.building
          (c.in-Ok.ensures.delivers (E ++ ds) honest here) in
          let more : take (c.loop-delivery.delivery-index + 1) c.args.deliveries.now ≡ ds ++ c.delivery-item.result ∷ [] =
          take_more c.args.deliveries.now c.loop-delivery.delivery-index c.delivery-item.result (omega (arith, c.loop-delivery-test.true))
          ∙ ap (λ (d : Delivery). ds ++ d ∷ []) (sym c.delivery-item.is) in
          let step =
          run-more c.args.self.now.building E ds _ c.delivery-item.result c.loop-delivery.replies.items new c.in-Ok.reply more
          done.0 delivered in
          (c.push_reserved.ensures.items ∙ step.0, step.1);
    }

pub returns-in-Err-clause-changes_each : goal.returns-in-Err-clause-changes_each
returns-in-Err-clause-changes_each g c =
    let so_far = c.loop-delivery.invariant in
    changes_each_stopped c.loop-delivery.replies.items c.loop-delivery.delivery-index c.in-Err.fault
    (g.S.Store.standing c.args.self.now.store) (g.S.Store.standing c.loop-delivery.self.store)
    (g.S.Store.standing c.deliver.new.self.store) so_far.sized so_far.stands c.in-Err.ensures.goes c.in-Err.ensures.changes_once
    so_far.follows
