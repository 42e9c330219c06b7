use Rattle.std.proofs.Common.{◌≡◌, rules, w64, refl, ap, ◌∙◌, Err}
use Rattle.std.specs.Int.{cast_signed as to_z, cast_unsigned as of_z}
use Rattle.sqlite.specs.declared.error.Error.TheVariants.{SqliteFailure}
use Rattle.sqlite.specs.declared.error.ErrorCode.TheVariants.{ConstraintViolation}
use Rattle.store_sql_rows.specs.Steps.{place_put}
use Rattle.store_sql_rows.proofs.ItemLemmas.{place_new}
use Rattle.store_sql_rows.proofs.StepLemmas.{one_statement, stays_put, turns_then}
use Rattle.store_sql_rows.proofs.place_puts.add.Goals as goal

pub returns-in-Ok : goal.returns-in-Ok
returns-in-Ok g c =
    let whole : to_z w64 (of_z w64 c.args.value) ≡ c.args.value = search rules in
    record { moves = one_statement _ _ _ (rw whole at c.in-Ok.ensures.moves) (place_new c.args.item.now c.args.value c.requires.value c.as_str-name.ensures.is_name c.requires.place) }

pub returns-in-Err-SqliteFailure-ConstraintViolation-Unique : goal.returns-in-Err-SqliteFailure-ConstraintViolation-Unique
returns-in-Err-SqliteFailure-ConstraintViolation-Unique g c =
    let refusal = c.in-Err-SqliteFailure-ConstraintViolation-Unique in
    record {
      moves = turns_then (λ t. t) (place_put c.args.item.now) (place_put c.args.item.now) (λ t. refl)
          (stays_put (tt {0}) (refusal.is ∙ ap Err (refusal.field-0-is ∙ ap SqliteFailure (refusal.field-0-0-is
          ∙ ap ConstraintViolation refusal.field-0-0-0-is)))
          c.add.ensures.moves c.add.ensures.refused)
          c.set.ensures.moves;
    }
