use Rattle.std.proofs.Common.{◌≡◌, subst, to_z, of_z, w64, rules}
use Rattle.deliveries.specs.declared.delivery.Delivery.TheVariants.{Tick}
use Rattle.deliveries.specs.Delivered.{Delivers}
use Rattle.desk_clock.proofs.ticking.deliver_tick.Goals as goal

pub returns-clause-delivers : goal.returns-clause-delivers
returns-clause-delivers g c = λ earlier honest held.
    let moment = c.args.moment in
    let whole : to_z w64 (of_z w64 moment) ≡ moment = search rules in
    subst (λ z. Delivers c.args.building.now earlier (Tick z) c.deliver_tick_after.result
    (g.S.Store.standing c.deliver_tick_after.new.store)) whole
    (c.deliver_tick_after.ensures.delivers earlier honest
    (c.new-nothing.ensures.today c.args.building.now (g.S.Store.standing c.args.store.now).content.tables.imported) held)
