use Rattle.std.proofs.Common.{[], rules}
use Rattle.sqlite.specs.Held.{state}
use Rattle.store_sql_rows.proofs.CreateLemmas.{asked_fails}
use Rattle.store_sql_rows.proofs.FailLemmas.{as_reported, nothing_fails}
use Rattle.store_sql_rows.proofs.creating.ask_nothing.Goals as goal

pub returns-in_err-prepare-clause-steps : goal.returns-in_err-prepare-clause-steps
returns-in_err-prepare-clause-steps g c = record {
  ok = search rules;
  inside = search rules;
  kept = λ clean. asked_fails _ (state g.S.Store c.args.tx.now.conn.now) (state g.S.Store c.prepare.new.self.conn.now)
      _ (c.in_err-prepare.ensures.err clean);
  survives = c.prepare.ensures.survives;
  cause = λ clean filled. as_reported (state g.S.Store c.args.tx.now.conn.now) (state g.S.Store c.prepare.new.self.conn.now)
      c.in_err-prepare.field-0.0 c.from_residual.result (search rules)
      (nothing_fails (state g.S.Store c.args.tx.now.conn.now) (state g.S.Store c.prepare.new.self.conn.now)
      c.in_err-prepare.field-0.0 filled.inside.schema_is (c.in_err-prepare.ensures.err clean []));
}
