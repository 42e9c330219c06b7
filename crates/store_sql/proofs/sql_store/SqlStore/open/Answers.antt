use Rattle.sqlite.specs.Held.{state}
use Rattle.store_sql.proofs.CauseLemmas.{cause_reported}
use Rattle.store_sql.proofs.sql_store.SqlStore.open.Goals as goal

pub returns-in-Err-clause-cause : goal.returns-in-Err-clause-cause
returns-in-Err-clause-cause g c clean =
    cause_reported (state g.S.Store c.args.connection) (state g.S.Store c.take.new.connection) c.in-Err.refusal c.fault.result
    (c.in-Err.ensures.cause clean) c.fault.ensures.reported
