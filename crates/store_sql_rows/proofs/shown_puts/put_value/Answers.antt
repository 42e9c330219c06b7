use Rattle.std.proofs.Common.{refl}
use Rattle.store_sql_rows.specs.Steps.{shown_put}
use Rattle.store_sql_rows.proofs.StepLemmas.{one_statement, turns_then}
use Rattle.store_sql_rows.proofs.ItemLemmas.{shown_found, shown_missed}
use Rattle.store_sql_rows.proofs.shown_puts.put_value.Goals as goal

pub returns-then-branch-eq0 : goal.returns-then-branch-eq0
returns-then-branch-eq0 g c =
    record {
      moves = turns_then (λ t. t) (shown_put c.args.item.now) (shown_put c.args.item.now) (λ t. refl)
          (one_statement _ _ c.in_ok-set_at.field-0 c.in_ok-set_at.ensures.moves
          (shown_missed _ _ _ c.in_ok-set_at.field-0 c.if-branch-eq0.true))
          c.add-then-branch-eq0.ensures.moves;
    }

pub returns : goal.returns
returns g c =
    record {
      moves = one_statement _ _ _
          c.in_ok-set_at.ensures.moves
          (shown_found c.args.item.now c.args.value c.requires c.as_str-name.ensures.is_name _ c.in_ok-set_at.field-0 c.if-branch-eq0.false);
    }
