use Rattle.std.proofs.Common.{rules}
use Rattle.sqlite.specs.Held.{state}
use Rattle.store_sql_rows.specs.Ours.{kept_in}
use Rattle.store.specs.Asked.Asked.{AnyName}
use Rattle.store_sql.proofs.NameLemmas.{panel_numbered}
use Rattle.store_sql.proofs.ReadLemmas.{answers_then, read_first, refused_first}
use Rattle.store_sql.proofs.names.stands_panel.Goals as goal

pub returns : goal.returns
returns g c =
    let kept = kept_in (state g.S.Store c.args.connection.now).now.trees in
    record {
      answers = answers_then (read_first c.in_ok-check_numbers.ensures.answers) c.has_panel.ensures.answers
          (λ _ numbered panel. panel_numbered kept c.args.panel.now c.has_panel.result numbered panel) (λ _ _ broken. broken);
    }

pub returns-in_err-check_numbers : goal.returns-in_err-check_numbers
returns-in_err-check_numbers g c = record { answers = refused_first c.in_err-check_numbers.ensures.answers (λ _ broken. (AnyName, broken)) (search rules) }
