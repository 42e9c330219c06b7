use Rattle.std.proofs.Common.{ℕ, ◌∙◌, Err, Result, rules}
use Rattle.sqlite.specs.declared.error.Error.{Error}
use Rattle.store.specs.Change.{with_each}
use Rattle.store_sql_rows.specs.Steps.{Turns, rows_dropped}
use Rattle.store_sql_rows.proofs.FailLemmas.{as_reported}
use Rattle.store_sql_rows.proofs.StepLemmas.{cause_after}
use Rattle.sqlite.specs.Held.{state}
use Rattle.store_sql.proofs.RaiseLemmas.{raised}
use Rattle.store_sql.proofs.raising.raise.Goals as goal

pub returns : goal.returns
returns g c = record {
  moves = record {
    same_reference = c.in_ok-set_version.ensures.moves.same_reference ∙ c.in_ok-drop_all.ensures.moves.same_reference;
    steps =
        raised c.args.dropped.now (state g.S.Store c.args.transaction.now.conn.now) (state g.S.Store c.drop_all.new.transaction.conn.now)
        (state g.S.Store c.set_version.new.transaction.conn.now) _ _ _ c.in_ok-drop_all.ensures.moves.steps
        c.in_ok-set_version.ensures.moves.steps;
  };
  cause = λ clean at. tt;
}

pub returns-in_err-set_version-clause-cause : goal.returns-in_err-set_version-clause-cause
returns-in_err-set_version-clause-cause g c clean at =
    let old = state g.S.Store c.args.transaction.now.conn.now in
    let mid = state g.S.Store c.drop_all.new.transaction.conn.now in
    let new = state g.S.Store c.set_version.new.transaction.conn.now in
    let fault = c.in_err-set_version.field-0.0 in
    let failed : Result ℕ Error = Err fault in
    as_reported old new fault c.from_residual-in_err-set_version.result (search rules)
    (cause_after (Turns (with_each rows_dropped c.args.dropped.now)) _ old mid new _ failed (λ done. done.inside)
    c.in_ok-drop_all.ensures.moves.steps c.in_err-set_version.ensures.moves.steps.survives c.in_err-set_version.ensures.cause clean at)
