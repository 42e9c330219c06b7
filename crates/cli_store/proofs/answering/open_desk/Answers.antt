use Rattle.std.proofs.Common.{Ok, ◌∙◌}
use Rattle.cli_store.proofs.RecordedLemmas.{behind-opened}
use Rattle.cli_store.proofs.answering.open_desk.Goals as goal

pub returns-in-Ok-open-clause-holds : goal.returns-in-Ok-open-clause-holds
returns-in-Ok-open-clause-holds g c = λ earlier opens honest.
    c.in-Ok-open.ensures.opened.kept honest (λ is. absurd (let e = is in cc)) ∙ opens (Ok c.in-Ok.store) c.in-Ok.ensures

pub returns-in-Ok-open-clause-behind : goal.returns-in-Ok-open-clause-behind
returns-in-Ok-open-clause-behind g c = λ earlier deliveries opens honest.
    behind-opened c.args.building c.args.building earlier deliveries (g.S.Store.standing c.in-Ok.store) (g.S.Store.standing c.in-Ok-open.desk.store)
    c.in-Ok-open.ensures.opened honest (opens (Ok c.in-Ok.store) c.in-Ok.ensures)
