use Rattle.std.proofs.Common.{◌<◌, IsSome, length, arith}
use Rattle.store.specs.declared.change.PlaceValue.{PlaceValue}
use Rattle.store.specs.Change.{with_each, with_place}
use Rattle.store_memory.specs.Held.{array_at, places_of}
use Rattle.store_memory.proofs.HeldLemmas.{at-item, each-step}
use Rattle.store_memory.proofs.arrays.Arrays.put.Goals as goal

pub set_place-requires-clause-room : goal.set_place-requires-clause-room
set_place-requires-clause-room c =
    let below : c.loop-item.item-index < length c.args.places.now = omega arith in
    c.loop-item.invariant.room _ (at-item (λ (x : PlaceValue). IsSome
    (array_at c.args.self.now x.point)) c.args.places.now c.loop-item.item-index c.item-item.result below c.item-item.is c.requires.room)

pub loop-item-preserved : goal.loop-item-preserved
loop-item-preserved c =
    let below : c.loop-item.item-index < length c.args.places.now = omega arith in
    record {
      places = each-step with_place c.args.places.now c.loop-item.item-index c.item-item.result (with_each with_place c.args.places.now
          (places_of c.args.self.now))
          (places_of c.loop-item.self) (places_of c.set_place.new.self) below c.item-item.is c.loop-item.invariant.places
          (λ i q. c.set_place.ensures.places q i);
      room = λ q here. c.set_place.ensures.stays q (c.loop-item.invariant.room q here);
    }
