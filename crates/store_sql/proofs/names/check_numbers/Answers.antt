use Rattle.sqlite.specs.Held.{state}
use Rattle.store_sql_rows.specs.Ours.{kept_in}
use Rattle.store_sql.proofs.ReadLemmas.{answers_made, bad_only, read_found}
use Rattle.store_sql.proofs.names.check_numbers.Goals as goal

pub returns : goal.returns
returns g c =
    let kept = kept_in (state g.S.Store c.args.connection.now).now.trees in
    record {
      answers = answers_made (read_found c.in_ok-rows.ensures.reads) (bad_only c.parsed_numbers.result c.parsed_numbers.ensures.fault)
          (λ _ found. c.parsed_numbers.ensures.value kept found) (λ _ found is. rw is at (c.parsed_numbers.ensures.bad kept found));
    }
