use Rattle.std.proofs.Common.{◌∙◌, sym}
use Rattle.deliveries.specs.declared.delivery.Delivery.TheVariants.{Import}
use Rattle.deliveries.specs.declared.reply.Reply.TheVariants.{ImportRefused}
use Rattle.deliveries.proofs.ClockLemmas.{reply-refused, tables-refused}
use Rattle.deliveries.proofs.DeliveredLemmas.{Delivers-read_only}
use Rattle.desk_clock.proofs.ClockedLemmas.{not_all-known}
use Rattle.store.proofs.ReadLemmas.{changes_once_then}
use Rattle.desk_clock.proofs.importing.deliver_import_after.Goals as goal

pub returns-in-Some-clause-delivers : goal.returns-in-Some-clause-delivers
returns-in-Some-clause-delivers g c = λ earlier honest held.
    let b = c.args.building.now in
    let rows = c.args.rows.now in
    let first = g.S.Store.standing c.args.store.now in
    let second = g.S.Store.standing c.last_tick.new.self in
    let refused = sym c.refused_record.ensures ∙ c.in-Some.is in
    Delivers-read_only b earlier (Import rows) (ImportRefused c.in-Some.record) first second c.in_ok-last.ensures.reads honest held
    (sym (reply-refused b earlier rows c.in-Some.record refused))
    (tables-refused b earlier rows (not_all-known b rows c.in-Some.record refused))

pub returns-in-None-clause-changes_once : goal.returns-in-None-clause-changes_once
returns-in-None-clause-changes_once g c =
    changes_once_then _ _ _ _ c.in_ok-last.ensures.reads c.import.ensures.goes.honest c.import.ensures.changes_once
