use Rattle.std.proofs.Common.{◌≤◌, arith, refl}
use Rattle.sqlite.specs.Held.{state}
use Rattle.store_sql_rows.specs.Ours.{kept_in}
use Rattle.store_sql_rows.specs.Stored.{tables_in}
use Rattle.store_sql.proofs.NumberLemmas.{ends_beyond, run_ends, so_far_none, stood_beyond, stood_run, stood_start}
use Rattle.store_sql.proofs.ReadLemmas.{answers_made, answers_ok, read_first, read_none}
use Rattle.store_sql.proofs.rows.commands_run.Goals as goal

pub returns-then-from-gt-LAST_NUMBER : goal.returns-then-from-gt-LAST_NUMBER
returns-then-from-gt-LAST_NUMBER g c =
    let first = state g.S.Store c.args.connection.now in
    let kept = kept_in first.now.trees in
    let panel = c.args.panel.now in
    let past = c.if-from-gt-LAST_NUMBER.true in
    let ends = ends_beyond panel kept c.args.from c.args.upto past in
    record {
      answers = answers_ok (read_none (λ _. Unit) first (λ _ _. tt)) (λ _ _. (
        run_ends ((tables_in kept).row panel) c.args.from c.args.upto c.args.from c.new.result.items
            (so_far_none ((tables_in kept).row panel) c.args.from c.args.upto c.new.result.items c.requires c.new.ensures.items) ends,
        stood_run kept panel c.args.from c.args.upto c.args.from (stood_start kept panel c.args.from) ends
            (stood_beyond panel kept c.args.from c.args.upto past),
      ));
    }

pub returns : goal.returns
returns g c =
    let first = state g.S.Store c.args.connection.now in
    let kept = kept_in first.now.trees in
    let least = c.at_least_1.result in
    let low : c.args.from ≤ least = c.at_least_1.ensures.up in
    record {
      answers = answers_made (read_first c.in_ok-numbered.ensures.answers) c.run_in.ensures.fault
          (λ _ listed.
          let after : least ≤ listed.0 = listed.1.after in
          c.run_in.ensures.value kept c.args.panel.now least listed.0 listed.1 (omega (arith, low, after)) c.at_least_1.ensures.near)
          (λ _ listed is.
          let after : least ≤ listed.0 = listed.1.after in
          (rw is at (c.run_in.ensures.bad kept c.args.panel.now least listed.0 listed.1 (omega (arith, low, after)) c.at_least_1.ensures.near))
          refl);
    }
