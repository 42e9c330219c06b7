use Rattle.store_sql_rows.specs.Creating.{IsInside, MakesTableIn}
use Rattle.store_sql_rows.specs.Schema.{schema_3, schema_4}
use Rattle.store_sql_rows.specs.Texts.{create_place}
use Rattle.store_sql_rows.proofs.CreateFails.{place_fails}
use Rattle.store_sql_rows.proofs.CreateLemmas.{executed, place_is_made}
use Rattle.store_sql_rows.proofs.creating.make_place.Goals as goal

pub returns-clause-steps : goal.returns-clause-steps
returns-clause-steps g c =
    executed g.S.Store c.args.tx.now.conn.now c.execute.new.self.conn.now create_place _ c.execute.result
    (IsInside schema_3) (MakesTableIn schema_3 schema_4) (place_is_made _ _ _) (place_fails _ _ _)
    c.execute.ensures.ended c.execute.ensures.runs c.execute.ensures.survives
