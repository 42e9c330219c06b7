use Rattle.store_sql_rows.proofs.StepLemmas.{two_statements}
use Rattle.store_sql_rows.proofs.ItemLemmas.{row_made}
use Rattle.store_sql_rows.proofs.putting.replace_row.Goals as goal

pub returns-clause-steps : goal.returns-clause-steps
returns-clause-steps g c = λ says.
    (two_statements _ _ _ _
    c.in_ok-clear.ensures.moves c.in_ok-add.ensures.moves
    (row_made c.args.item.now c.args.cells.now.code c.args.cells.now.a c.args.cells.now.b
    c.as_str-name.ensures.is_name c.as_str-point.ensures.is_name c.requires says)).steps
