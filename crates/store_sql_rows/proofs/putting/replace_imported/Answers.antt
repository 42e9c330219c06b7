use Rattle.store_sql_rows.proofs.StepLemmas.{two_statements}
use Rattle.store_sql_rows.proofs.ItemLemmas.{imported_made}
use Rattle.store_sql_rows.proofs.putting.replace_imported.Goals as goal

pub returns-clause-steps : goal.returns-clause-steps
returns-clause-steps g c = λ in_range.
    (two_statements _ _ _ _
    c.in_ok-clear.ensures.moves c.in_ok-add.ensures.moves
    (imported_made c.args.item.now c.args.text.now c.requires c.as_str-name.ensures.is_name in_range)).steps
