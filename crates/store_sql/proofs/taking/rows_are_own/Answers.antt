use Rattle.std.proofs.Common.{rules}
use Rattle.sqlite.specs.Held.{state}
use Rattle.store_sql_rows.proofs.FailLemmas.{as_reported}
use Rattle.store_sql.proofs.CauseLemmas.{asked_later}
use Rattle.store_sql.proofs.ReadLemmas.{clean_before}
use Rattle.store_sql.proofs.taking.rows_are_own.Goals as goal

pub returns-in_err-answers-clause-cause : goal.returns-in_err-answers-clause-cause
returns-in_err-answers-clause-cause g c clean =
    as_reported (state g.S.Store c.args.connection.now) (state g.S.Store c.answers.new.connection) c.in_err-answers.field-0.0
    c.from_residual.result (search rules) (c.in_err-answers.ensures.cause clean c.requires.shaped.schema_is)

pub returns-clause-cause : goal.returns-clause-cause
returns-clause-cause g c clean =
    let mid = state g.S.Store c.answers.new.connection in
    let new = state g.S.Store c.are_own.new.connection in
    asked_later (state g.S.Store c.args.connection.now) mid new _ _ c.are_own.result c.requires.settled
    (c.in_ok-answers.ensures.same (clean_before mid new c.are_own.ensures.survives.clean clean)) c.in_ok-answers.ensures.survives
    c.are_own.ensures.survives clean (c.are_own.ensures.cause clean)
