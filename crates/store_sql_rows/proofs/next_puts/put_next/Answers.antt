use Rattle.std.proofs.Common.{refl}
use Rattle.store_sql_rows.specs.Steps.{next_put}
use Rattle.store_sql_rows.proofs.StepLemmas.{one_statement, turns_then}
use Rattle.store_sql_rows.proofs.ItemLemmas.{next_found, next_missed}
use Rattle.store_sql_rows.proofs.next_puts.put_next.Goals as goal

pub returns-then-branch-eq0 : goal.returns-then-branch-eq0
returns-then-branch-eq0 g c =
    record {
      moves = turns_then (λ t. t) (next_put c.args.item.now) (next_put c.args.item.now) (λ t. refl)
          (one_statement _ _ c.in_ok-set_at.field-0 c.in_ok-set_at.ensures.moves
          (next_missed _ _ _ c.in_ok-set_at.field-0 c.if-branch-eq0.true))
          c.add-then-branch-eq0.ensures.moves;
    }

pub returns : goal.returns
returns g c =
    record {
      moves = one_statement _ _ _
          c.in_ok-set_at.ensures.moves
          (next_found c.args.item.now c.as_str-name.ensures.is_name c.requires _ c.in_ok-set_at.field-0 c.if-branch-eq0.false);
    }
