use Rattle.sqlite.specs.Held.{state}
use Rattle.store_sql_rows.specs.Ours.{kept_in}
use Rattle.std.proofs.Common.{◌≤◌, rules, sym}
use Rattle.store_sql.proofs.NumberLemmas.{no_row_outside}
use Rattle.store_sql.proofs.ReadLemmas.{answers_ok, read_none}
use Rattle.store_sql.proofs.rows.command_of.Goals.{else-number-ge-LEAST_NUMBER-via-then-number-ge-LEAST_NUMBER+else-number-le-LAST_NUMBER, else-number-ge-LEAST_NUMBER-via-else-number-ge-LEAST_NUMBER}
use Rattle.store_sql.proofs.rows.command_of.Goals as goal

pub returns-else-number-ge-LEAST_NUMBER : goal.returns-else-number-ge-LEAST_NUMBER
returns-else-number-ge-LEAST_NUMBER g c =
    let first = state g.S.Store c.args.connection.now in
    let outside : 1 ≤ c.args.number → c.args.number ≤ 1_000_000_000_000 → ⊥ = λ low high. elim c.else-number-ge-LEAST_NUMBER.branch [
      | else-number-ge-LEAST_NUMBER-via-then-number-ge-LEAST_NUMBER+else-number-le-LAST_NUMBER w ↦ search rules
      | else-number-ge-LEAST_NUMBER-via-else-number-ge-LEAST_NUMBER w ↦ search rules
    ] in
    record {
      answers = answers_ok (read_none (λ _. Unit) first (λ _ _. tt))
          (λ _ _. (
            sym (no_row_outside c.args.panel.now c.args.number (kept_in first.now.trees) outside),
            λ broken. outside broken.0.least broken.0.greatest,
          ));
    }
