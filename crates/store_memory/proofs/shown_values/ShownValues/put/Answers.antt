use Rattle.std.proofs.Common.{◌<◌, IsSome, length, arith}
use Rattle.store.specs.declared.change.ShownValue.{ShownValue}
use Rattle.store.specs.Change.{with_each, with_shown}
use Rattle.store_memory.specs.Held.{shown_slot, shown_of}
use Rattle.store_memory.proofs.HeldLemmas.{at-item, each-step}
use Rattle.store_memory.proofs.shown_values.ShownValues.put.Goals as goal

pub set_shown-requires : goal.set_shown-requires
set_shown-requires c =
    let below : c.loop-item.item-index < length c.args.shown.now = omega arith in
    c.loop-item.invariant.room _ (at-item (λ (x : ShownValue). IsSome
    (shown_slot c.args.self.now x.schedule)) c.args.shown.now c.loop-item.item-index c.item-item.result below c.item-item.is c.requires)

pub loop-item-preserved : goal.loop-item-preserved
loop-item-preserved c =
    let below : c.loop-item.item-index < length c.args.shown.now = omega arith in
    record {
      shown =
          each-step with_shown c.args.shown.now c.loop-item.item-index c.item-item.result
          (with_each with_shown c.args.shown.now (shown_of c.args.self.now))
          (shown_of c.loop-item.self) (shown_of c.set_shown.new.self) below c.item-item.is c.loop-item.invariant.shown
          (λ i q. c.set_shown.ensures.shown q i);
      room = λ q here. c.set_shown.ensures.stays q (c.loop-item.invariant.room q here);
    }
