use Rattle.sqlite.specs.Held.{state}
use Rattle.store_sql_rows.specs.Ours.{kept_in}
use Rattle.std.proofs.Common.{rules}
use Rattle.store.specs.Asked.Asked.{RowOf}
use Rattle.store_sql.specs.Stepping.{IsNumberAt}
use Rattle.store_sql.proofs.NameLemmas.{row_none}
use Rattle.store_sql.proofs.ReadLemmas.{answers_ok, read_first, refused_then}
use Rattle.store_sql.proofs.rows.has_row.Goals as goal

pub returns-in-None : goal.returns-in-None
returns-in-None g c =
    record {
      answers = answers_ok (read_first c.in_ok-next_number.ensures.answers)
          (λ _ none. row_none (kept_in (state g.S.Store c.args.connection.now).now.trees) c.args.panel.now (rw c.in-None.is at none));
    }

pub returns-in_err-_row-in-Some : goal.returns-in_err-_row-in-Some
returns-in_err-_row-in-Some g c =
    let kept = kept_in (state g.S.Store c.args.connection.now).now.trees in
    record {
      answers = refused_then (read_first c.in_ok-next_number.ensures.answers) c.in_err-_row-in-Some.ensures.answers
          (λ _ next broken. let at : IsNumberAt kept c.args.panel.now 1 c.in-Some.number = rw c.in-Some.is at next in
          (RowOf c.args.panel.now c.in-Some.number, (broken at.here).1))
          (search rules);
    }
