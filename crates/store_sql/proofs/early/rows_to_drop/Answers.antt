use Rattle.sqlite.specs.Held.{state}
use Rattle.store_sql_rows.specs.Ours.{kept_in}
use Rattle.std.proofs.Common.{rules}
use Rattle.store_sql.proofs.EarlyLemmas.{early_reported}
use Rattle.store_sql.proofs.ReadLemmas.{answers_then, read_first, refused_first}
use Rattle.store_sql_rows.proofs.UnsoundLemmas.{unsound}
use Rattle.store_sql.proofs.early.rows_to_drop.Goals as goal

pub returns : goal.returns
returns g c =
    let kept = kept_in (state g.S.Store c.args.connection.now).now.trees in
    record {
      answers = answers_then (read_first c.in_ok-names.ensures.answers) c.early_of.ensures.answers
          (λ _ names read. early_reported kept c.in_ok-names.names.panels.items names.0.panels names.1 (λ v. v.items) c.early_of.result
          (rw c.deref.ensures.value at read))
          (λ _ _ broken. broken);
    }

pub returns-in_err-names : goal.returns-in_err-names
returns-in_err-names g c =
    let kept = kept_in (state g.S.Store c.args.connection.now).now.trees in
    record { answers = refused_first c.in_err-names.ensures.answers (λ _ row. unsound kept row.0 row.1) (search rules) }
