use Rattle.std.proofs.Common.{rules}
use Rattle.sqlite.specs.Held.{state}
use Rattle.store_sql.proofs.CauseLemmas.{unmoved_caused, unread_caused}
use Rattle.store_sql.proofs.RaiseLemmas.{survives_migration}
use Rattle.store_sql.proofs.taking.migrate.Goals as goal

pub returns-in_err-dropped-clause-cause : goal.returns-in_err-dropped-clause-cause
returns-in_err-dropped-clause-cause g c =
    unread_caused (state g.S.Store c.args.connection.now) (state g.S.Store c.rows_to_drop.new.connection) c.in_err-dropped.field-0.0
    c.from_residual.result (search rules) c.in_err-dropped.ensures.answers

pub returns-in_err-commit_raised-clause-cause : goal.returns-in_err-commit_raised-clause-cause
returns-in_err-commit_raised-clause-cause g c =
    unmoved_caused (state g.S.Store c.args.connection.now) (state g.S.Store c.rows_to_drop.new.connection)
    (state g.S.Store c.commit_raised.new.connection) c.in_ok-dropped.dropped c.in_err-commit_raised.field-0.0
    c.from_residual-in_err-commit_raised.result (search rules) c.in_ok-dropped.ensures.answers c.in_err-commit_raised.ensures.survives
    c.in_err-commit_raised.ensures.cause

pub returns-in_err-commit_raised-clause-survives : goal.returns-in_err-commit_raised-clause-survives
returns-in_err-commit_raised-clause-survives g c =
    survives_migration (λ v. v.items) c.in_ok-dropped.dropped (state g.S.Store c.args.connection.now)
    (state g.S.Store c.rows_to_drop.new.connection) (state g.S.Store c.commit_raised.new.connection)
    c.in_ok-dropped.ensures.answers (rw c.deref.ensures.value at c.in_err-commit_raised.ensures.survives)

pub returns-clause-survives : goal.returns-clause-survives
returns-clause-survives g c =
    survives_migration (λ v. v.items) c.in_ok-dropped.dropped (state g.S.Store c.args.connection.now)
    (state g.S.Store c.rows_to_drop.new.connection) (state g.S.Store c.commit_raised.new.connection)
    c.in_ok-dropped.ensures.answers (rw c.deref.ensures.value at c.in_ok-commit_raised.ensures.survives)
