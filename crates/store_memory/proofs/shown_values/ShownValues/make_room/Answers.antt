use Rattle.std.proofs.Common.{◌∙◌, ◌<◌, IsSome, length, arith}
use Rattle.store.specs.declared.change.ShownValue.{ShownValue}
use Rattle.store_memory.specs.Held.{shown_slot}
use Rattle.store_memory.proofs.HeldLemmas.{room-step}
use Rattle.store_memory.proofs.shown_values.ShownValues.make_room.Goals as goal

pub loop-item-preserved : goal.loop-item-preserved
loop-item-preserved c =
    let below : c.loop-item.item-index < length c.args.shown.now = omega arith in
    record {
      room = room-step (λ (x : ShownValue). IsSome (shown_slot c.loop-item.self x.schedule)) (λ (x : ShownValue). IsSome
          (shown_slot c.make_slot.new.self x.schedule)) c.args.shown.now c.loop-item.item-index
          c.item-item.result below c.item-item.is (λ
          (x : ShownValue). c.make_slot.ensures.stays x.schedule) c.loop-item.invariant.room c.in_ok-make_slot.ensures.room;
      same = λ q. c.make_slot.ensures.same q ∙ c.loop-item.invariant.same q;
    }
