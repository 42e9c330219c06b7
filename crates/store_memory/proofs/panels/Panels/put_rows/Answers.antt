use Rattle.std.proofs.Common.{◌∙◌, ◌<◌, IsSome, length, arith}
use Rattle.store.specs.declared.change.KeptRow.{KeptRow}
use Rattle.store.specs.Change.{with_each, with_row}
use Rattle.store_memory.specs.Held.{row_of, slot_of}
use Rattle.store_memory.proofs.HeldLemmas.{at-item, each-step}
use Rattle.store_memory.proofs.panels.Panels.put_rows.Goals as goal

pub set_row-requires : goal.set_row-requires
set_row-requires c =
    let below : c.loop-item.item-index < length c.args.rows.now = omega arith in
    c.loop-item.invariant.room.slots _ _ (at-item (λ (x : KeptRow). IsSome
    (slot_of c.args.self.now x.panel x.number)) c.args.rows.now c.loop-item.item-index c.item-item.result below c.item-item.is c.requires)

pub loop-item-preserved : goal.loop-item-preserved
loop-item-preserved c =
    let below : c.loop-item.item-index < length c.args.rows.now = omega arith in
    record {
      rows =
          each-step with_row c.args.rows.now c.loop-item.item-index c.item-item.result
          (with_each with_row c.args.rows.now (row_of c.args.self.now))
          (row_of c.loop-item.self) (row_of c.set_row.new.self) below c.item-item.is c.loop-item.invariant.rows
          (λ i q n. c.set_row.ensures.rows q n i);
      next = (λ i q. c.set_row.ensures.next q i) ∙ c.loop-item.invariant.next;
      room = record {
        tables = λ q here. c.set_row.ensures.room.tables q (c.loop-item.invariant.room.tables q here);
        slots = λ q n here. c.set_row.ensures.room.slots q n (c.loop-item.invariant.room.slots q n here);
      };
    }
