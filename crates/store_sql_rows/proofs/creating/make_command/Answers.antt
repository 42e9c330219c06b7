use Rattle.store_sql_rows.specs.Creating.{IsInside, MakesTableIn}
use Rattle.store_sql_rows.specs.Schema.{schema_2, schema_3}
use Rattle.store_sql_rows.specs.Texts.{create_command}
use Rattle.store_sql_rows.proofs.CreateFails.{command_fails}
use Rattle.store_sql_rows.proofs.CreateLemmas.{executed, command_is_made}
use Rattle.store_sql_rows.proofs.creating.make_command.Goals as goal

pub returns-clause-steps : goal.returns-clause-steps
returns-clause-steps g c =
    executed g.S.Store c.args.tx.now.conn.now c.execute.new.self.conn.now create_command _ c.execute.result
    (IsInside schema_2) (MakesTableIn schema_2 schema_3) (command_is_made _ _ _) (command_fails _ _ _)
    c.execute.ensures.ended c.execute.ensures.runs c.execute.ensures.survives
