use Rattle.sqlite.specs.Held.{state}
use Rattle.store_sql_rows.specs.Ours.{kept_in}
use Rattle.std.proofs.Common.{sym}
use Rattle.store_sql.proofs.NumberLemmas.{row_there}
use Rattle.store_sql.proofs.ReadLemmas.{answers_bad, read_first}
use Rattle.store_sql.proofs.rows.row_under.Goals as goal

pub returns-in-None-clause-answers : goal.returns-in-None-clause-answers
returns-in-None-clause-answers g c =
    answers_bad (read_first c.in_ok-row.ensures.answers)
    (λ _ row there. absurd (row_there (kept_in (state g.S.Store c.args.connection.now).now.trees) c.args.panel.now c.args.number there row.1
    (sym (rw c.in-None.is at row.0))))
