use Rattle.std.proofs.Common.{IfOk, subst}
use Rattle.store_sql.specs.Numbered.{AreSaid}
use Rattle.store_sql.proofs.NumberedLemmas.{listed_ok}
use Rattle.store_sql.proofs.rows.parsed_run.Goals as goal

pub returns-clause-listed : goal.returns-clause-listed
returns-clause-listed c kept found =
    listed_ok c.args.panel.now c.args.from c.args.upto kept c.args.rows.items c.as_str-name.ensures.is_name found c.by_number.result
    (subst (λ rows. IfOk c.by_number.result (AreSaid rows)) c.deref.ensures.value c.by_number.ensures.said)
    c.by_number.ensures.numbers
