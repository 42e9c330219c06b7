use Rattle.sqlite.specs.Held.{state}
use Rattle.sqlite.specs.Values.{bound}
use Rattle.store_sql_rows.proofs.RestLemmas.{look_rests, look_same, look_survives}
use Rattle.store_sql_rows.proofs.looking.look.Goals as goal

pub returns-clause-same : goal.returns-clause-same
returns-clause-same g c clean plain =
    look_same (λ v. v.items) c.args.sql.now (bound c.args.params.now) (state g.S.Store c.args.connection.now)
    (state g.S.Store c.query_all.new.self) plain c.query_all.result (c.query_all.ensures.ok clean)

pub returns-clause-rests : goal.returns-clause-rests
returns-clause-rests g c clean plain =
    look_rests (λ v. v.items) c.args.sql.now (bound c.args.params.now) (state g.S.Store c.args.connection.now)
    (state g.S.Store c.query_all.new.self) plain c.query_all.result
    (c.query_all.ensures.ok clean) (c.query_all.ensures.err clean)

pub returns-clause-survives : goal.returns-clause-survives
returns-clause-survives g c =
    look_survives c.args.sql.now (bound c.args.params.now) (state g.S.Store c.args.connection.now)
    (state g.S.Store c.query_all.new.self) c.query_all.ensures.survives
