use Rattle.sqlite.specs.Held.{state}
use Rattle.store_sql_rows.specs.Ours.{kept_in}
use Rattle.store_sql.proofs.NameLemmas.{bad_numbered}
use Rattle.store_sql.proofs.ReadLemmas.{answers_made, bad_only, read_found}
use Rattle.store_sql.proofs.next_names.next_numbered_panel.Goals as goal

pub returns : goal.returns
returns g c =
    let kept = kept_in (state g.S.Store c.args.connection.now).now.trees in
    record {
      answers = answers_made (read_found c.in_ok-rows.ensures.reads) (bad_only c.parsed_name.result c.parsed_name.ensures.fault)
          (λ _ found. c.parsed_name.ensures.value kept.panel found)
          (λ _ found is. bad_numbered kept (rw is at (c.parsed_name.ensures.bad kept.panel found)));
    }
