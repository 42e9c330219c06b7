use Rattle.std.proofs.Common.{refl, ap, ◌∙◌, Err}
use Rattle.sqlite.specs.declared.error.Error.TheVariants.{SqliteFailure}
use Rattle.sqlite.specs.declared.error.ErrorCode.TheVariants.{ConstraintViolation}
use Rattle.store_sql_rows.specs.Steps.{next_put}
use Rattle.store_sql_rows.proofs.ItemLemmas.{next_new}
use Rattle.store_sql_rows.proofs.StepLemmas.{one_statement, stays_put, turns_then}
use Rattle.store_sql_rows.proofs.next_puts.add.Goals as goal

pub returns-in-Ok : goal.returns-in-Ok
returns-in-Ok g c =
    record { moves = one_statement _ _ _ c.in-Ok.ensures.moves (next_new c.args.item.now c.as_str-name.ensures.is_name c.requires) }

pub returns-in-Err-SqliteFailure-ConstraintViolation-Unique : goal.returns-in-Err-SqliteFailure-ConstraintViolation-Unique
returns-in-Err-SqliteFailure-ConstraintViolation-Unique g c =
    let refusal = c.in-Err-SqliteFailure-ConstraintViolation-Unique in
    record {
      moves = turns_then (λ t. t) (next_put c.args.item.now) (next_put c.args.item.now) (λ t. refl)
          (stays_put (tt {0}) (refusal.is ∙ ap Err (refusal.field-0-is ∙ ap SqliteFailure (refusal.field-0-0-is
          ∙ ap ConstraintViolation refusal.field-0-0-0-is)))
          c.add.ensures.moves c.add.ensures.refused)
          c.set.ensures.moves;
    }
