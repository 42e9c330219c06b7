use Rattle.std.proofs.Common.{◌∙◌, ◌<◌, IsSome, length, arith}
use Rattle.store.specs.declared.change.PlaceValue.{PlaceValue}
use Rattle.store_memory.specs.Held.{array_at}
use Rattle.store_memory.proofs.HeldLemmas.{room-step}
use Rattle.store_memory.proofs.arrays.Arrays.make_room.Goals as goal

pub loop-item-preserved : goal.loop-item-preserved
loop-item-preserved c =
    let below : c.loop-item.item-index < length c.args.places.now = omega arith in
    record {
      room = room-step (λ (x : PlaceValue). IsSome (array_at c.loop-item.self x.point)) (λ (x : PlaceValue). IsSome
          (array_at c.make_array.new.self x.point)) c.args.places.now c.loop-item.item-index
          c.item-item.result below c.item-item.is (λ
          (x : PlaceValue). c.make_array.ensures.stays x.point) c.loop-item.invariant.room c.in_ok-make_array.ensures.room;
      same = λ q. c.make_array.ensures.same q ∙ c.loop-item.invariant.same q;
    }
