use Rattle.std.proofs.Common.{sym, subst}
use Rattle.store_sql_rows.proofs.StepLemmas.{one_statement}
use Rattle.store_sql_rows.proofs.ItemLemmas.{rows_lost}
use Rattle.store_sql_rows.proofs.DropLemmas.{drops_above, drops_itself, drops_the_same}
use Rattle.store_sql_rows.proofs.putting.drop_rows.Goals.{then-item-lt-ABOVE, else-item-lt-ABOVE}
use Rattle.store_sql_rows.proofs.putting.drop_rows.Goals as goal

pub returns : goal.returns
returns g c =
    record {
      moves = one_statement _ _ _
          c.in_ok-drop_below.ensures.moves
          (λ k l. rows_lost k l c.args.item.now c.if-item-lt-ABOVE.number
          (elim c.if-item-lt-ABOVE.branch [
            | then-item-lt-ABOVE w ↦ subst (λ n. drops_the_same c.args.item.now n) (sym w.number-is) (drops_itself c.args.item.now)
            | else-item-lt-ABOVE w ↦ subst (λ n. drops_the_same c.args.item.now n) (sym w.number-is)
                (drops_above c.args.item.now w.if-item-lt-ABOVE.false)
          ]));
      cause = λ clean inside. tt;
    }
