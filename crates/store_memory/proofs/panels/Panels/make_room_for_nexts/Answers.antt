use Rattle.std.proofs.Common.{◌<◌, IsSome, length, arith}
use Rattle.store.specs.declared.change.NextNumber.{NextNumber}
use Rattle.store_memory.specs.Held.{table_at}
use Rattle.store_memory.proofs.HeldLemmas.{room-step}
use Rattle.store_memory.proofs.PanelLemmas.{Grows-then}
use Rattle.store_memory.proofs.panels.Panels.make_room_for_nexts.Goals as goal

pub loop-item-preserved : goal.loop-item-preserved
loop-item-preserved c =
    let below : c.loop-item.item-index < length c.args.nexts.now = omega arith in
    record {
      room = room-step (λ (x : NextNumber). IsSome (table_at c.loop-item.self x.panel)) (λ (x : NextNumber). IsSome
          (table_at c.make_table.new.self x.panel)) c.args.nexts.now
          c.loop-item.item-index c.item-item.result below c.item-item.is
          (λ (x : NextNumber). c.make_table.ensures.grows.room.tables x.panel) c.loop-item.invariant.room c.in_ok-make_table.ensures.room;
      grows = Grows-then _ _ _ c.loop-item.invariant.grows c.make_table.ensures.grows;
    }
