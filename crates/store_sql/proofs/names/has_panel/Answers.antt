use Rattle.sqlite.specs.Held.{state}
use Rattle.store_sql_rows.specs.Ours.{kept_in}
use Rattle.std.proofs.Common.{◌≡◌, rules, sym, ◌∙◌}
use Rattle.store.specs.Asked.Asked.{NextOf}
use Rattle.store_sql.proofs.NameLemmas.{panel_reported}
use Rattle.store_sql.proofs.ReadLemmas.{answers_then, read_first, refused_first}
use Rattle.store_sql.proofs.names.has_panel.Goals as goal

pub returns : goal.returns
returns g c =
    let kept = kept_in (state g.S.Store c.args.connection.now).now.trees in
    let one : c.in_ok-next_of.field-0 ≡ 1 = search rules in
    record {
      answers = answers_then (read_first c.in_ok-next_of.ensures.answers) c.has_row.ensures.answers
          (λ _ next row. panel_reported kept c.args.panel.now c.has_row.result (sym next.0 ∙ one) next.1 row) (λ _ _ broken. broken);
    }

pub returns-in_err-next_of : goal.returns-in_err-next_of
returns-in_err-next_of g c =
    record { answers = refused_first c.in_err-next_of.ensures.answers (λ _ broken. (NextOf c.args.panel.now, broken)) (search rules) }
