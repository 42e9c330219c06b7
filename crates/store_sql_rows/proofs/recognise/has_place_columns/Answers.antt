use Rattle.std.proofs.Common.{refl}
use Rattle.store_sql_rows.proofs.Items.{three}
use Rattle.store_sql_rows.proofs.recognise.has_place_columns.Goals as goal

pub returns : goal.returns
returns c =
    rw c.as_slice.ensures at (three c.as_slice.result.now c.point-item.result c.priority-item.result c.value-item.result _ _ _ _
    c.in-len3.len_at_least c.in-len3.len_below
    c.point-item.is c.priority-item.is c.value-item.is (c.if-not-is_column.ensures.0 refl) (c.if-not-is_column-2.ensures.0 refl)
    c.is_column-3.ensures)
