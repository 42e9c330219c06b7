use Rattle.store_sql_rows.specs.Creating.{IsEmptyAs, IsFilled}
use Rattle.store_sql_rows.specs.Schema.{desk_schema}
use Rattle.store_sql_rows.proofs.FirstRowFails.{first_row_fails}
use Rattle.store_sql_rows.proofs.CreateLemmas.{executed, first_row_is_made, first_row_text}
use Rattle.store_sql_rows.proofs.creating.first_row.Goals as goal

pub returns-clause-steps : goal.returns-clause-steps
returns-clause-steps g c =
    executed g.S.Store c.args.tx.now.conn.now c.execute.new.self.conn.now first_row_text _ c.execute.result
    (IsEmptyAs desk_schema) (λ _. IsFilled) (first_row_is_made _ _ _) (first_row_fails _ _ _)
    c.execute.ensures.ended c.execute.ensures.runs c.execute.ensures.survives
