use Rattle.store_sql_rows.specs.Creating.{IsInside, MakesTableIn}
use Rattle.store_sql_rows.specs.Schema.{schema_4, schema_5}
use Rattle.store_sql_rows.specs.Texts.{create_shown}
use Rattle.store_sql_rows.proofs.CreateFails.{shown_fails}
use Rattle.store_sql_rows.proofs.CreateLemmas.{executed, shown_is_made}
use Rattle.store_sql_rows.proofs.creating.make_shown.Goals as goal

pub returns-clause-steps : goal.returns-clause-steps
returns-clause-steps g c =
    executed g.S.Store c.args.tx.now.conn.now c.execute.new.self.conn.now create_shown _ c.execute.result
    (IsInside schema_4) (MakesTableIn schema_4 schema_5) (shown_is_made _ _ _) (shown_fails _ _ _)
    c.execute.ensures.ended c.execute.ensures.runs c.execute.ensures.survives
