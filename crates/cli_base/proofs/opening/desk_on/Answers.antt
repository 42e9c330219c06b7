use Rattle.std.proofs.Common.{◌∙◌}
use Rattle.cli_base.proofs.FaultLemmas.{of_memory}
use Rattle.cli_base.proofs.opening.desk_on.Goals as goal

pub returns-in-Ok-clause-holds : goal.returns-in-Ok-clause-holds
returns-in-Ok-clause-holds c = λ earlier begins.
    c.in-Ok.ensures.opened.kept tt (λ e. cc) ∙ c.tables_of.ensures c.args.building earlier begins

pub returns-in-Err-clause-own_tables : goal.returns-in-Err-clause-own_tables
returns-in-Err-clause-own_tables c = λ earlier begins.
    c.in-Err.ensures.own_tables earlier (c.tables_of.ensures c.args.building earlier begins) tt

pub returns-in-Err-clause-cause : goal.returns-in-Err-clause-cause
returns-in-Err-clause-cause c = of_memory c.in-Err.fault c.tables_of.result c.in-Err._tables c.in-Err.ensures.refused.goes
