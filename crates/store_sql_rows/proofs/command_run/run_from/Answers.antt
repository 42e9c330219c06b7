use Rattle.sqlite.specs.Held.{state}
use Rattle.store_sql_rows.proofs.CommandLemmas.{run_ok}
use Rattle.store_sql_rows.proofs.CommandTexts.{run_runs, run_sure, run_text}
use Rattle.sqlite.specs.Listing.{understood}
use Rattle.store_sql_rows.specs.Schema.{desk_schema}
use Rattle.store_sql_rows.proofs.RestLemmas.{reads_made}
use Rattle.store_sql_rows.proofs.StepwiseLemmas.{is_command}
use Rattle.store_sql_rows.proofs.command_run.run_from.Goals as goal

pub read_run-requires-clause-sure : goal.read_run-requires-clause-sure
read_run-requires-clause-sure g c = rw (c.text.ensures, c.count.ensures) (run_sure c.args.panel.now c.args.from)

pub returns : goal.returns
returns g c = record {
  reads = reads_made c.read_run.ensures.leaves (λ clean ours.
      run_ok (state g.S.Store c.args.connection.now).now ours c.args.panel.now c.args.from c.args.upto c.requires.at_least_1
      (λ v. v.items) c.read_run.result
      (rw (c.text.ensures, c.count.ensures) at (c.read_run.ensures.read clean ours _
      (is_command (understood desk_schema run_text) _ run_runs.plain run_runs.is))));
}
