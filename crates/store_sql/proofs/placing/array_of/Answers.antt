use Rattle.sqlite.specs.Held.{state}
use Rattle.store_sql_rows.specs.Ours.{kept_in}
use Rattle.store_sql.proofs.ReadLemmas.{answers_sound, bad_only, read_found}
use Rattle.store_sql.proofs.placing.array_of.Goals as goal

pub returns : goal.returns
returns g c =
    let kept = kept_in (state g.S.Store c.args.connection.now).now.trees in
    record {
      answers = answers_sound (read_found c.in_ok-rows.ensures.reads) (bad_only c.parsed_array.result c.parsed_array.ensures.fault)
          (λ _ found. c.parsed_array.ensures.value kept found) (λ _ found. c.parsed_array.ensures.stood kept found)
          (λ _ found is. rw is at (c.parsed_array.ensures.bad kept found));
    }
