use Rattle.std.proofs.Common.{subst}
use Rattle.deliveries.specs.Laws.{HasDistinctSchedules}
use Rattle.desk_record.proofs.ResumeLemmas.{behind-again, made-again}
use Rattle.desk_record.proofs.again.deliver_again.Goals as goal

pub returns-in-Ok-clause-made : goal.returns-in-Ok-clause-made
returns-in-Ok-clause-made g c = λ earlier honest behind.
    let b = c.args.desk.now.building in
    let distinct = subst HasDistinctSchedules c.building.ensures c.names_are_distinct.ensures.schedules in
    made-again b earlier c.args.delivery.now (g.S.Store.standing c.args.desk.now.store) (g.S.Store.standing c.deliver.new.self.store)
    distinct behind honest c.in-Ok.field-0 c.in-Ok.ensures.goes (λ list held. c.in-Ok.ensures.delivers list honest held)

pub returns-in-Err-clause-behind : goal.returns-in-Err-clause-behind
returns-in-Err-clause-behind g c = λ earlier honest behind.
    let b = c.args.desk.now.building in
    let distinct = subst HasDistinctSchedules c.building.ensures c.names_are_distinct.ensures.schedules in
    behind-again b earlier c.args.delivery.now (g.S.Store.standing c.args.desk.now.store) (g.S.Store.standing c.deliver.new.self.store)
    distinct behind honest c.in-Err.fault c.in-Err.ensures.goes (λ list held. c.in-Err.ensures.delivers list honest held)
