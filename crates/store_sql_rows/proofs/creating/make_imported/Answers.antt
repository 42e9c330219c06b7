use Rattle.store_sql_rows.specs.Creating.{IsInside, MakesTableIn}
use Rattle.store_sql_rows.specs.Schema.{schema_5, desk_schema}
use Rattle.store_sql_rows.specs.Texts.{create_imported}
use Rattle.store_sql_rows.proofs.CreateFails.{imported_fails}
use Rattle.store_sql_rows.proofs.CreateLemmas.{executed, imported_is_made}
use Rattle.store_sql_rows.proofs.creating.make_imported.Goals as goal

pub returns-clause-steps : goal.returns-clause-steps
returns-clause-steps g c =
    executed g.S.Store c.args.tx.now.conn.now c.execute.new.self.conn.now create_imported _ c.execute.result
    (IsInside schema_5) (MakesTableIn schema_5 desk_schema) (imported_is_made _ _ _) (imported_fails _ _ _)
    c.execute.ensures.ended c.execute.ensures.runs c.execute.ensures.survives
