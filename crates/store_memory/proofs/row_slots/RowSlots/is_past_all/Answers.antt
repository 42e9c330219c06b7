use Rattle.std.proofs.Common.{◌≡◌, ◌<◌, length, refl, arith}
use Rattle.std.proofs.lemmas.Bool.{lt-ltb, ltb-true}
use Rattle.store_memory.proofs.RowSlotLemmas.{past_last}
use Rattle.store_memory.proofs.row_slots.RowSlots.is_past_all.Goals as goal

pub returns-in-Some : goal.returns-in-Some
returns-in-Some c =
    let slots = c.self.inside.slots.items in
    let long : c.self.inside.slots.len ≡ length slots = c.self.inside.slots.ok.0 in
    let some : 0 < length slots = let here = c.in-Some.ensures.variant.0 refl in omega (arith, here, long) in
    let last = c.in-Some.last.now in
    let both = past_last slots c.args.number last c.self.invariant some (rw long at c.in-Some.ensures.lookup) in
    rw (← c.self.view_is) (
      (λ less. both.0 (ltb-true last.number c.args.number less)),
      (λ all. lt-ltb last.number c.args.number (both.1 all)),
    )
