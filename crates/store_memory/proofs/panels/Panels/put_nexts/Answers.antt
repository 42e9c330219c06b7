use Rattle.std.proofs.Common.{◌∙◌, ◌<◌, IsSome, length, arith}
use Rattle.store.specs.declared.change.NextNumber.{NextNumber}
use Rattle.store.specs.Change.{with_each, with_next}
use Rattle.store_memory.specs.Held.{next_of, table_at}
use Rattle.store_memory.proofs.HeldLemmas.{at-item, each-step}
use Rattle.store_memory.proofs.panels.Panels.put_nexts.Goals as goal

pub set_next-requires : goal.set_next-requires
set_next-requires c =
    let below : c.loop-item.item-index < length c.args.nexts.now = omega arith in
    c.loop-item.invariant.room.tables _ (at-item (λ (x : NextNumber). IsSome
    (table_at c.args.self.now x.panel)) c.args.nexts.now c.loop-item.item-index c.item-item.result below c.item-item.is c.requires)

pub loop-item-preserved : goal.loop-item-preserved
loop-item-preserved c =
    let below : c.loop-item.item-index < length c.args.nexts.now = omega arith in
    record {
      next =
          each-step with_next c.args.nexts.now c.loop-item.item-index c.item-item.result
          (with_each with_next c.args.nexts.now (next_of c.args.self.now))
          (next_of c.loop-item.self) (next_of c.set_next.new.self) below c.item-item.is c.loop-item.invariant.next
          (λ i q. c.set_next.ensures.next q i);
      rows = (λ i q n. c.set_next.ensures.rows q n i) ∙ c.loop-item.invariant.rows;
      room = record {
        tables = λ q here. c.set_next.ensures.room.tables q (c.loop-item.invariant.room.tables q here);
        slots = λ q n here. c.set_next.ensures.room.slots q n (c.loop-item.invariant.room.slots q n here);
      };
    }
