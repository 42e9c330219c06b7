use Rattle.sqlite.specs.Held.{state}
use Rattle.store_sql_rows.specs.Ours.{kept_in}
use Rattle.store_sql.proofs.NumberLemmas.{from_least}
use Rattle.store_sql.proofs.ReadLemmas.{answers_ok, read_found}
use Rattle.store_sql.proofs.rows.next_number.Goals as goal

pub returns-clause-answers : goal.returns-clause-answers
returns-clause-answers g c =
    let kept = kept_in (state g.S.Store c.args.connection.now).now.trees in
    answers_ok (read_found c.in_ok-rows.ensures.reads)
    (λ _ found. from_least kept c.args.panel.now c.args.from c.at_least_1-least.result c.parsed_number.result c.at_least_1-least.ensures.up
    c.at_least_1-least.ensures.near (c.parsed_number.ensures.value kept found))
