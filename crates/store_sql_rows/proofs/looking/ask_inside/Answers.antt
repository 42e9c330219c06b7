use Rattle.sqlite.proofs.InsideLemmas.{keeps_then}
use Rattle.sqlite.specs.Held.{state}
use Rattle.sqlite.specs.Values.{bound}
use Rattle.store_sql_rows.proofs.AskedLemmas.{answered_keeps, answers_inside, was_inside}
use Rattle.store_sql_rows.proofs.StepLemmas.{clean_before}
use Rattle.store_sql_rows.proofs.looking.ask_inside.Goals as goal

pub returns-clause-shown : goal.returns-clause-shown
returns-clause-shown g c clean inside =
    let old = state g.S.Store c.args.transaction.now.conn.now in
    let mid = state g.S.Store c.run.new.transaction.conn.now in
    let new = state g.S.Store c.query_all.new.self.conn.now in
    let clean_mid = clean_before mid new _ c.query_all.ensures.survives clean in
    answers_inside c.args.sql.now _ (bound c.args.params.now) old mid new c.in_ok-run.field-0 (λ v. v.items) c.query_all.result
    c.requires.plain c.requires.unlisted inside (c.in_ok-run.ensures.runs clean_mid inside.in_transaction) (c.query_all.ensures.ok clean)

pub returns-clause-kept : goal.returns-clause-kept
returns-clause-kept g c clean =
    let old = state g.S.Store c.args.transaction.now.conn.now in
    let mid = state g.S.Store c.run.new.transaction.conn.now in
    let new = state g.S.Store c.query_all.new.self.conn.now in
    let clean_mid = clean_before mid new _ c.query_all.ensures.survives clean in
    let was = was_inside old c.in_ok-run.field-0 c.in_ok-run.ensures.ended in
    let began = c.in_ok-run.ensures.runs clean_mid was in
    keeps_then old mid new (c.in_ok-run.ensures.kept clean_mid)
    (answered_keeps c.args.sql.now (bound c.args.params.now) mid new (λ v. v.items) c.query_all.result began.1.mode
    (c.query_all.ensures.ok clean) (c.query_all.ensures.err clean))
