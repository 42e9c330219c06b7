use Rattle.sqlite.specs.Held.{state}
use Rattle.store_sql.proofs.CauseLemmas.{cause_reported}
use Rattle.store_sql.proofs.sql_store.SqlStore.create.Goals as goal

pub returns-in-Err-clause-cause : goal.returns-in-Err-clause-cause
returns-in-Err-clause-cause g c clean =
    cause_reported (state g.S.Store c.args.connection) (state g.S.Store c.make.new.connection) c.in-Err.refusal c.fault.result
    (c.in-Err.ensures.cause clean) c.fault.ensures.reported
