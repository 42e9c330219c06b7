use Rattle.std.proofs.Common.{◌<◌, ◌∙◌, length, arith}
use Rattle.std.proofs.lemmas.List.{drop_all}
use Rattle.sqlite.specs.Held.{state}
use Rattle.store_sql_rows.specs.Steps.{row_put}
use Rattle.store_sql_rows.proofs.StepLemmas.{nears_last, nears_next}
use Rattle.store_sql.proofs.writing.put_rows.Goals as goal

pub loop-item-preserved : goal.loop-item-preserved
loop-item-preserved g c =
    let below : c.loop-item.item-index < length c.args.items.now = omega arith in
    record {
      same = c.put_row.ensures.moves.same_reference ∙ c.loop-item.invariant.same;
      steps =
          nears_next row_put c.args.items.now c.loop-item.item-index c.item-item.result (state g.S.Store c.args.transaction.now.conn.now)
          (state g.S.Store c.loop-item.transaction.conn.now) (state g.S.Store c.put_row.new.transaction.conn.now) _ _ below c.item-item.is
          c.loop-item.invariant.steps c.in_ok-put_row.ensures.moves.steps;
    }

pub returns : goal.returns
returns g c = record {
  moves = record {
    same_reference = c.loop-item.invariant.same;
    steps =
        nears_last row_put c.args.items.now c.loop-item.item-index (state g.S.Store c.args.transaction.now.conn.now)
        (state g.S.Store c.loop-item.transaction.conn.now) _ _
        (drop_all c.loop-item.item-index c.args.items.now (omega arith)) c.loop-item.invariant.steps;
  };
}
