use Rattle.std.proofs.Common.{refl, ap, ◌∙◌, Err}
use Rattle.sqlite.specs.declared.error.Error.TheVariants.{SqliteFailure}
use Rattle.sqlite.specs.declared.error.ErrorCode.TheVariants.{ConstraintViolation}
use Rattle.store_sql_rows.specs.Steps.{shown_put}
use Rattle.store_sql_rows.proofs.ItemLemmas.{shown_new}
use Rattle.store_sql_rows.proofs.StepLemmas.{one_statement, stays_put, turns_then}
use Rattle.store_sql_rows.proofs.shown_puts.add.Goals as goal

pub returns-in-Ok : goal.returns-in-Ok
returns-in-Ok g c =
    record { moves = one_statement _ _ _ c.in-Ok.ensures.moves (shown_new c.args.item.now c.args.value c.requires c.as_str-name.ensures.is_name) }

pub returns-in-Err-SqliteFailure-ConstraintViolation-Unique : goal.returns-in-Err-SqliteFailure-ConstraintViolation-Unique
returns-in-Err-SqliteFailure-ConstraintViolation-Unique g c =
    let refusal = c.in-Err-SqliteFailure-ConstraintViolation-Unique in
    record {
      moves = turns_then (λ t. t) (shown_put c.args.item.now) (shown_put c.args.item.now) (λ t. refl)
          (stays_put (tt {0}) (refusal.is ∙ ap Err (refusal.field-0-is ∙ ap SqliteFailure (refusal.field-0-0-is
          ∙ ap ConstraintViolation refusal.field-0-0-0-is)))
          c.add.ensures.moves c.add.ensures.refused)
          c.set.ensures.moves;
    }
