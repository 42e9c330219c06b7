use Rattle.sqlite.specs.Held.{state}
use Rattle.sqlite.specs.Values.{bound}
use Rattle.store_sql_rows.proofs.FailLemmas.{query_fails_if}
use Rattle.store_sql_rows.proofs.RestLemmas.{ours_survives, plain_here}
use Rattle.store_sql_rows.proofs.looking.ask.Goals as goal

pub returns-clause-leaves : goal.returns-clause-leaves
returns-clause-leaves g c =
    let sql = c.args.sql.now in
    let old = state g.S.Store c.args.connection.now in
    let new = state g.S.Store c.look.new.connection in
    record {
      mode = c.look.ensures.mode;
      same = λ clean ours. c.look.ensures.same clean (plain_here sql old ours c.requires.plain);
      rests = λ clean ours. c.look.ensures.rests clean (plain_here sql old ours c.requires.plain);
      survives = ours_survives sql old new c.requires.plain c.look.ensures.survives;
      cause = λ clean ours. query_fails_if sql (bound c.args.params.now) old new c.look.result c.requires ours.schema_is (c.look.ensures.refused clean);
    }
