use Rattle.std.proofs.Common.{refl, ap, ◌∙◌, Err}
use Rattle.sqlite.specs.declared.error.Error.TheVariants.{SqliteFailure}
use Rattle.sqlite.specs.declared.error.ErrorCode.TheVariants.{ConstraintViolation}
use Rattle.store.specs.Tables.{Tables}
use Rattle.store.specs.declared.change.RowsBelow.{RowsBelow}
use Rattle.store_sql_rows.specs.Steps.{row_put, rows_dropped}
use Rattle.store_sql_rows.proofs.ItemLemmas.{none_exchanged, row_exchanged}
use Rattle.store_sql_rows.proofs.StepLemmas.{one_statement, stays_put, turns_then}
use Rattle.store_sql_rows.proofs.putting.exchange_row.Goals as goal

pub returns-in-Ok-eq0 : goal.returns-in-Ok-eq0
returns-in-Ok-eq0 g c =
    let item = c.args.item.now in
    let cells = c.cells_of-cells.result in
    let lower : RowsBelow = record { panel = item.panel; number = c.args.below } in
    record {
      moves = turns_then (rows_dropped lower) (row_put item) (λ t. row_put item (rows_dropped lower t)) (λ t. refl)
          (one_statement _ (rows_dropped lower) c.in-Ok-eq0.field-0 c.in-Ok-eq0.ensures.moves
          (none_exchanged item cells.code cells.a cells.b c.as_str-name.ensures.is_name c.as_str-point.ensures.is_name
          c.requires.item c.cells_of-cells.ensures c.args.below c.in-Ok-eq0.field-0 c.in-Ok-eq0.field-0-test))
          c.put_row.ensures.moves;
    }

pub returns-in-Ok : goal.returns-in-Ok
returns-in-Ok g c =
    let item = c.args.item.now in
    let cells = c.cells_of-cells.result in
    record {
      moves = one_statement _ _ _ c.in-Ok.ensures.moves
          (row_exchanged item cells.code cells.a cells.b c.as_str-name.ensures.is_name c.as_str-point.ensures.is_name
          c.requires.item c.cells_of-cells.ensures c.args.below c.in-Ok.field-0 c.in-Ok.field-0-test.1);
    }

pub returns-in-Err-SqliteFailure-ConstraintViolation-Unique : goal.returns-in-Err-SqliteFailure-ConstraintViolation-Unique
returns-in-Err-SqliteFailure-ConstraintViolation-Unique g c =
    let item = c.args.item.now in
    let refusal = c.in-Err-SqliteFailure-ConstraintViolation-Unique in
    let both = λ (t : Tables). row_put item (rows_dropped (record { panel = item.panel; number = c.args.below }) t) in
    record {
      moves = turns_then (λ t. t) both both (λ t. refl)
          (stays_put (tt {0}) (refusal.is ∙ ap Err (refusal.field-0-is ∙ ap SqliteFailure (refusal.field-0-0-is
          ∙ ap ConstraintViolation refusal.field-0-0-0-is)))
          c.exchange.ensures.moves c.exchange.ensures.refused)
          c.drop_and_put.ensures.moves;
    }
