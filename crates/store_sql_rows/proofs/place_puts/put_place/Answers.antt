use Rattle.store_sql_rows.proofs.StepLemmas.{one_statement}
use Rattle.store_sql_rows.proofs.ItemLemmas.{place_cleared}
use Rattle.store_sql_rows.proofs.place_puts.put_place.Goals as goal

pub returns : goal.returns
returns g c = record {
  moves = one_statement _ _ _
      c.in_ok-clear.ensures.moves
      (λ k l. place_cleared k l c.args.item.now c.in_default.is);
}
