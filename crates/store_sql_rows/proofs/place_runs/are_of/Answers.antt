use Rattle.std.proofs.Common.{◌<◌, length, refl, arith}
use Rattle.store_sql_rows.proofs.TogetherLemmas.{are_next}
use Rattle.store_sql_rows.proofs.place_runs.are_of.Goals as goal

pub loop-at-preserved : goal.loop-at-preserved
loop-at-preserved c =
    let in_items : c.loop-at.at < length c.args.items.now = omega arith in
    let in_rows : c.loop-at.at < length c.args.rows.now = omega (arith, c.loop-at.invariant.lengths) in
    let is = c.if-not-is_of.ensures refl in
    record {
      lengths = c.loop-at.invariant.lengths;
      whole =
          are_next c.args.rows.now c.args.items.now c.loop-at.at c.index-rows-at.result c.index-items-at.result in_rows in_items
          c.index-rows-at.is c.index-items-at.is is.0 is.1 c.loop-at.invariant.whole;
    }
