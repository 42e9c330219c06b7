use Rattle.std.proofs.Common.{refl}
use Rattle.store_sql_rows.proofs.Items.{eight}
use Rattle.store_sql_rows.proofs.recognise.has_command_columns.Goals as goal

pub returns : goal.returns
returns c =
    rw c.as_slice.ensures at (eight c.as_slice.result.now c.panel-item.result c.number-item.result c.point-item.result
    c.priority-item.result c.value-item.result c.state-item.result c.a-item.result c.b-item.result _ _ _ _ _ _ _ _ _
    c.in-len8.len_at_least c.in-len8.len_below
    c.panel-item.is c.number-item.is c.point-item.is c.priority-item.is c.value-item.is c.state-item.is c.a-item.is c.b-item.is
    (c.if-not-is_column.ensures.0 refl) (c.if-not-is_column-2.ensures.0 refl) (c.if-not-is_column-3.ensures.0 refl)
    (c.if-not-is_column-4.ensures.0 refl) (c.if-not-is_column-5.ensures.0 refl) (c.if-not-is_column-6.ensures.0 refl)
    (c.if-not-is_column-7.ensures.0 refl) c.is_column-8.ensures)
