use Rattle.std.proofs.Common.{refl}
use Rattle.store.specs.declared.change.RowsBelow.{RowsBelow}
use Rattle.store_sql_rows.specs.Steps.{row_put, rows_dropped}
use Rattle.store_sql_rows.proofs.StepLemmas.{turns_then}
use Rattle.store_sql_rows.proofs.putting.drop_and_put.Goals as goal

pub returns : goal.returns
returns g c =
    let lower : RowsBelow = record { panel = c.args.item.now.panel; number = c.args.below } in
    record {
      moves = turns_then (rows_dropped lower) (row_put c.args.item.now) (λ t. row_put c.args.item.now (rows_dropped lower t)) (λ t. refl)
          c.in_ok-drop_rows.ensures.moves c.put_row.ensures.moves;
    }
