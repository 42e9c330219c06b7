use Rattle.std.proofs.Common.{◌<◌, IsSome, length, arith}
use Rattle.store.specs.declared.change.KeptRow.{KeptRow}
use Rattle.store_memory.specs.Held.{slot_of}
use Rattle.store_memory.proofs.HeldLemmas.{room-step}
use Rattle.store_memory.proofs.PanelLemmas.{Grows-then}
use Rattle.store_memory.proofs.panels.Panels.make_room_for_rows.Goals as goal

pub loop-item-preserved : goal.loop-item-preserved
loop-item-preserved c =
    let below : c.loop-item.item-index < length c.args.rows.now = omega arith in
    record {
      room = room-step (λ (x : KeptRow). IsSome (slot_of c.loop-item.self x.panel x.number)) (λ (x : KeptRow). IsSome
          (slot_of c.make_slot.new.self x.panel x.number)) c.args.rows.now
          c.loop-item.item-index c.item-item.result below c.item-item.is
          (λ (x : KeptRow) here. c.make_slot.ensures.grows.room.slots x.panel x.number here) c.loop-item.invariant.room c.in_ok-make_slot.ensures.room;
      grows = Grows-then _ _ _ c.loop-item.invariant.grows c.make_slot.ensures.grows;
    }
