use Rattle.std.proofs.Common.{◌∙◌, ◌<◌, length, arith}
use Rattle.store.specs.Change.{with_each, without_rows}
use Rattle.store_memory.specs.Held.{row_of}
use Rattle.store_memory.proofs.HeldLemmas.{each-step}
use Rattle.store_memory.proofs.panels.Panels.drop_rows.Goals as goal

pub loop-item-preserved : goal.loop-item-preserved
loop-item-preserved c =
    let below : c.loop-item.item-index < length c.args.dropped.now = omega arith in
    record {
      rows = each-step without_rows c.args.dropped.now c.loop-item.item-index c.item-item.result (with_each without_rows c.args.dropped.now
          (row_of c.args.self.now))
          (row_of c.loop-item.self) (row_of c.drop_below.new.self) below c.item-item.is c.loop-item.invariant.rows
          (λ i q n. c.drop_below.ensures.rows q n i);
      next = (λ i q. c.drop_below.ensures.next q i) ∙ c.loop-item.invariant.next;
    }
