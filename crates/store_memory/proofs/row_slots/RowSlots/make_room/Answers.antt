use Rattle.std.proofs.Common.{◌≡◌, ℕ, eqb, Some, None, if◌then◌else◌}
use Rattle.store_memory.specs.RowSlots.{slot_for}
use Rattle.store_memory.proofs.RowSlotLemmas.{absent_past, pushed, room-made, room-same, room-stays}
use Rattle.store_memory.proofs.row_slots.RowSlots.make_room.Goals as goal

module _ (c : goal.In_ok-push_back) where
  lacked : slot_for c.args.self.now c.args.number ≡ None
  lacked = absent_past c.args.self.now c.args.number (c.is_past_all.ensures.0 c.if-is_past_all.true)

  gains : (n : ℕ) → slot_for c.push_back.new.self.items n ≡ (if eqb c.args.number n then Some None else slot_for c.args.self.now n)
  gains n =
      let is = pushed c.args.self.now c.args.number (c.is_past_all.ensures.0 c.if-is_past_all.true) None n in
      rw (c.in_ok-push_back.ensures.items, c.self.view_is) is

pub returns-then-is_past_all-clause-room : goal.returns-then-is_past_all-clause-room
returns-then-is_past_all-clause-room c = room-made c.args.number (slot_for c.args.self.now) (slot_for c.push_back.new.self.items) (lacked c) (gains c)

pub returns-then-is_past_all-clause-stays : goal.returns-then-is_past_all-clause-stays
returns-then-is_past_all-clause-stays c = room-stays c.args.number (slot_for c.args.self.now) (slot_for c.push_back.new.self.items) (lacked c) (gains c)

pub returns-then-is_past_all-clause-same : goal.returns-then-is_past_all-clause-same
returns-then-is_past_all-clause-same c = room-same c.args.number (slot_for c.args.self.now) (slot_for c.push_back.new.self.items) (lacked c) (gains c)
