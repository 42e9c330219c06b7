use Rattle.std.proofs.Common.{◌≡◌, ◌<◌, None, Some, length, rules, subst}
use Rattle.store.specs.Standing.{Content}
use Rattle.store.specs.declared.fault.StoreFault.TheVariants.{Failed}
use Rattle.deliveries.specs.Moved.{answered_rows, places_after_each}
use Rattle.desk_commands.specs.Written.{Acts}
use Rattle.desk_commands.proofs.ActedLemmas.{places_then, rows_then}
use Rattle.desk_commands.proofs.acting.act_on_each.Goals as goal

pub loop-entry-preserved : goal.loop-entry-preserved
loop-entry-preserved g c =
    let building = c.args.building.now in
    let panel = c.args.panel.now.name in
    let held = (g.S.Store.standing c.args.store.now).content.tables.places in
    let entry = c.entry-item.result in
    let inv = c.loop-entry.invariant in
    let below : c.loop-entry.entry-index < length c.args.entries.now = search rules in
    let was = λ (honest : (g.S.Store.standing c.act_on.new.store).is_honest). c.act_on.ensures.reads.goes.honest honest in
    let never : (None ≡ Some Failed → ⊥) = λ e. cc in
    let acts : (g.S.Store.standing c.act_on.new.store).is_honest → Acts building panel held entry c.loop-entry.acted c.act_on.new.acted =
    λ honest. subst (λ (content : Content). Acts building panel content.tables.places entry c.loop-entry.acted c.act_on.new.acted)
    (inv.reads.kept (was honest) never) (c.in_ok-act_on.ensures.acts honest) in
    let entries = c.args.entries.now in
    let index = c.loop-entry.entry-index in
    let old = c.loop-entry.acted in
    let new = c.act_on.new.acted in
    record {
      reads = search rules;
      rows = λ honest. rows_then building panel held entries index entry below c.entry-item.is old new (acts honest)
          (answered_rows building held panel entries) (inv.rows (was honest));
      places = λ honest. places_then building panel held entries index entry below c.entry-item.is old new (acts honest)
          (places_after_each building held panel entries) (inv.places (was honest));
      kept = c.in_ok-act_on.ensures.rows;
      placed = c.in_ok-act_on.ensures.places;
    }
