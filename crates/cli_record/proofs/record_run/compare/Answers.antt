use Rattle.std.proofs.Common.{refl}
use Rattle.cli_record.proofs.record_run.compare.Goals as goal

pub returns-clause-compared : goal.returns-clause-compared
returns-clause-compared g c = λ earlier begins honest.
    c.in_ok-verdict.ensures.compared c.args.building earlier c.args.deliveries.now
    (g.S.Store.standing c.args.store.now).content.tables refl (c.in_ok-compared.ensures.found earlier begins honest)
