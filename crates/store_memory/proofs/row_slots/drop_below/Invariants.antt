use Rattle.std.proofs.Common.{◌≡◌, ℕ, List, None, length, nat_lt, if◌then◌else◌}
use Rattle.store_memory.specs.declared.row_slots.RowSlot.{RowSlot}
use Rattle.store_memory.specs.RowSlots.{AreRising, slot_for}
use Rattle.store_memory.proofs.row_slots.drop_below.Given as goal

pub record Taken (now was : List RowSlot) (number : ℕ) : Type 0 where
  pub rising : AreRising now
  pub same : (n : ℕ) → (if nat_lt n number then None else slot_for now n) ≡ (if nat_lt n number then None else slot_for was n)

abbrev pub invariant-loop-slots : goal.invariant-loop-slots
invariant-loop-slots l = Taken l.slots.items l.initial.slots.items l.number

abbrev pub decreases-loop-slots : goal.decreases-loop-slots
decreases-loop-slots l = length l.slots.items
