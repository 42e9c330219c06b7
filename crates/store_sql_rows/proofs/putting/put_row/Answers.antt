use Rattle.store_sql_rows.proofs.StepLemmas.{one_statement}
use Rattle.store_sql_rows.proofs.ItemLemmas.{row_added}
use Rattle.store_sql_rows.proofs.putting.put_row.Goals as goal

pub returns-in-Ok : goal.returns-in-Ok
returns-in-Ok g c =
    record {
      moves = one_statement _ _ _
          c.in-Ok.ensures.moves
          (row_added c.args.item.now c.cells_of-cells.result.code c.cells_of-cells.result.a c.cells_of-cells.result.b
          c.as_str-name.ensures.is_name c.as_str-point.ensures.is_name c.requires c.cells_of-cells.ensures);
    }
