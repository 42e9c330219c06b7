use Rattle.std.proofs.Common.{◌≡◌, refl, rules, w64}
use Rattle.std.specs.Int.{cast_signed as to_z, cast_unsigned as of_z}
use Rattle.store_sql_rows.specs.Steps.{place_put}
use Rattle.store_sql_rows.proofs.StepLemmas.{one_statement, turns_then}
use Rattle.store_sql_rows.proofs.ItemLemmas.{place_found, place_missed}
use Rattle.store_sql_rows.proofs.place_puts.put_value.Goals as goal

pub returns-then-branch-eq0 : goal.returns-then-branch-eq0
returns-then-branch-eq0 g c =
    record {
      moves = turns_then (λ t. t) (place_put c.args.item.now) (place_put c.args.item.now) (λ t. refl)
          (one_statement _ _ c.in_ok-set_at.field-0 c.in_ok-set_at.ensures.moves
          (place_missed _ _ _ c.in_ok-set_at.field-0 c.if-branch-eq0.true))
          c.add-then-branch-eq0.ensures.moves;
    }

pub returns : goal.returns
returns g c =
    let whole : to_z w64 (of_z w64 c.args.value) ≡ c.args.value = search rules in
    record {
      moves = one_statement _ _ _
          (rw whole at c.in_ok-set_at.ensures.moves)
          (place_found c.args.item.now c.args.value c.requires.value c.as_str-name.ensures.is_name c.requires.place _ c.in_ok-set_at.field-0 c.if-branch-eq0.false);
    }
