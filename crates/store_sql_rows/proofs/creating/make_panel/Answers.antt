use Rattle.store_sql_rows.specs.Creating.{IsInside, MakesTableIn}
use Rattle.store_sql_rows.specs.Schema.{schema_1, schema_2}
use Rattle.store_sql_rows.specs.Texts.{create_panel}
use Rattle.store_sql_rows.proofs.CreateFails.{panel_fails}
use Rattle.store_sql_rows.proofs.CreateLemmas.{executed, panel_is_made}
use Rattle.store_sql_rows.proofs.creating.make_panel.Goals as goal

pub returns-clause-steps : goal.returns-clause-steps
returns-clause-steps g c =
    executed g.S.Store c.args.tx.now.conn.now c.execute.new.self.conn.now create_panel _ c.execute.result
    (IsInside schema_1) (MakesTableIn schema_1 schema_2) (panel_is_made _ _ _) (panel_fails _ _ _)
    c.execute.ensures.ended c.execute.ensures.runs c.execute.ensures.survives
