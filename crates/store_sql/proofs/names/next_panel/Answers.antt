use Rattle.sqlite.specs.Held.{state}
use Rattle.store_sql_rows.specs.Ours.{kept_in}
use Rattle.store_sql.specs.Naming.{HasName}
use Rattle.store_sql.proofs.NameLemmas.{next_either}
use Rattle.store_sql.proofs.ReadLemmas.{answers_ok, read_first, read_then}
use Rattle.store_sql.proofs.names.next_panel.Goals as goal

pub returns : goal.returns
returns g c =
    let kept = kept_in (state g.S.Store c.args.connection.now).now.trees in
    record {
      answers = answers_ok (read_then (read_first c.in_ok-numbered.ensures.answers) c.in_ok-commanding.ensures.answers)
          (λ _ both. next_either (HasName kept.panel) (HasName kept.command) c.args.from.now c.in_ok-numbered.numbered
          c.in_ok-commanding.commanding c.lesser.result c.lesser.ensures both.0 both.1);
    }
