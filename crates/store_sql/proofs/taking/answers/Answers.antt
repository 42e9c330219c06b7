use Rattle.std.proofs.Common.{[], rules}
use Rattle.sqlite.specs.Held.{state}
use Rattle.store_sql_rows.proofs.FailLemmas.{as_reported, nothing_fails}
use Rattle.store_sql.proofs.OpenLemmas.{not_run_rests}
use Rattle.store_sql.proofs.taking.answers.Goals as goal

pub returns-in_err-prepare-clause-rests : goal.returns-in_err-prepare-clause-rests
returns-in_err-prepare-clause-rests g c clean =
    not_run_rests [] [] (state g.S.Store c.args.connection.now) (state g.S.Store c.prepare.new.self) c.in_err-prepare.field-0.0
    (c.in_err-prepare.ensures.err clean [])

pub returns-in_err-prepare-clause-cause : goal.returns-in_err-prepare-clause-cause
returns-in_err-prepare-clause-cause g c clean has =
    let old = state g.S.Store c.args.connection.now in
    let new = state g.S.Store c.prepare.new.self in
    as_reported old new c.in_err-prepare.field-0.0 c.from_residual.result (search rules)
    (nothing_fails old new c.in_err-prepare.field-0.0 has (c.in_err-prepare.ensures.err clean []))
