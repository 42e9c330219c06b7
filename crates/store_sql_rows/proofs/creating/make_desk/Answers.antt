use Rattle.store_sql_rows.specs.Creating.{IsInside, MakesTableIn}
use Rattle.store_sql_rows.specs.Schema.{schema_0, schema_1}
use Rattle.store_sql_rows.specs.Texts.{create_desk}
use Rattle.store_sql_rows.proofs.CreateFails.{desk_fails}
use Rattle.store_sql_rows.proofs.CreateLemmas.{executed, desk_is_made}
use Rattle.store_sql_rows.proofs.creating.make_desk.Goals as goal

pub returns-clause-steps : goal.returns-clause-steps
returns-clause-steps g c =
    executed g.S.Store c.args.tx.now.conn.now c.execute.new.self.conn.now create_desk _ c.execute.result
    (IsInside schema_0) (MakesTableIn schema_0 schema_1) (desk_is_made _ _ _) (desk_fails _ _ _)
    c.execute.ensures.ended c.execute.ensures.runs c.execute.ensures.survives
