use Rattle.store_sql_rows.proofs.StepLemmas.{one_statement, two_statements}
use Rattle.store_sql_rows.proofs.ItemLemmas.{next_added, next_set}
use Rattle.store_sql_rows.proofs.next_puts.set.Goals as goal

pub returns-then-branch-eq0 : goal.returns-then-branch-eq0
returns-then-branch-eq0 g c =
    record {
      moves = two_statements _ _ _ _
          c.in_ok-set.ensures.moves c.in_ok-add.ensures.moves
          (next_added c.args.item.now c.as_str-name.ensures.is_name c.requires c.in_ok-set.field-0 c.if-branch-eq0.true);
    }

pub returns : goal.returns
returns g c =
    record {
      moves = one_statement _ _ _
          c.in_ok-set.ensures.moves
          (next_set c.args.item.now c.as_str-name.ensures.is_name c.requires c.in_ok-set.field-0 c.if-branch-eq0.false);
    }
