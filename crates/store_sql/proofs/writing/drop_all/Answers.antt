use Rattle.std.proofs.Common.{◌<◌, ◌∙◌, length, arith, Err, Result, rules}
use Rattle.sqlite.specs.declared.error.Error.{Error}
use Rattle.std.proofs.lemmas.List.{drop_all}
use Rattle.sqlite.specs.Held.{state}
use Rattle.store_sql_rows.specs.Steps.{rows_dropped}
use Rattle.store_sql_rows.proofs.FailLemmas.{as_reported}
use Rattle.store_sql_rows.proofs.StepLemmas.{cause_after, nears_last, nears_next}
use Rattle.store_sql.proofs.writing.drop_all.Goals as goal

pub loop-item-preserved : goal.loop-item-preserved
loop-item-preserved g c =
    let below : c.loop-item.item-index < length c.args.items.now = omega arith in
    record {
      same = c.drop_rows.ensures.moves.same_reference ∙ c.loop-item.invariant.same;
      steps =
          nears_next rows_dropped c.args.items.now c.loop-item.item-index c.item-item.result
          (state g.S.Store c.args.transaction.now.conn.now)
          (state g.S.Store c.loop-item.transaction.conn.now) (state g.S.Store c.drop_rows.new.transaction.conn.now) _ _ below c.item-item.is
          c.loop-item.invariant.steps c.in_ok-drop_rows.ensures.moves.steps;
    }

pub returns : goal.returns
returns g c = record {
  moves = record {
    same_reference = c.loop-item.invariant.same;
    steps =
        nears_last rows_dropped c.args.items.now c.loop-item.item-index (state g.S.Store c.args.transaction.now.conn.now)
        (state g.S.Store c.loop-item.transaction.conn.now) _ _
        (drop_all c.loop-item.item-index c.args.items.now (omega arith)) c.loop-item.invariant.steps;
  };
  cause = λ clean at. tt;
}

pub returns-in_err-drop_rows-clause-cause : goal.returns-in_err-drop_rows-clause-cause
returns-in_err-drop_rows-clause-cause g c clean at =
    let old = state g.S.Store c.args.transaction.now.conn.now in
    let mid = state g.S.Store c.loop-item.transaction.conn.now in
    let new = state g.S.Store c.drop_rows.new.transaction.conn.now in
    let fault = c.in_err-drop_rows.field-0.0 in
    let failed : Result (Unit {0}) Error = Err fault in
    as_reported old new fault c.from_residual.result (search rules)
    (cause_after _ _ old mid new _ failed (λ near. near.inside)
    c.loop-item.invariant.steps c.in_err-drop_rows.ensures.moves.steps.survives c.in_err-drop_rows.ensures.cause clean at)
