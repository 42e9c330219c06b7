use Rattle.std.proofs.Common.{◌≡◌, ◌∙◌, ℕ, eqb, Some, None, if◌then◌else◌, is_some, sym, ap, subst}
use Rattle.std.proofs.lemmas.Bool.{false≢true}
use Rattle.store_memory.specs.RowSlots.{AreRising, IsAt, slot_for}
use Rattle.store_memory.proofs.RowSlotLemmas.{absent, found, inserted, room-made, room-same, room-stays}
use Rattle.store_memory.proofs.row_slots.RowSlots.make_slot.Goals as goal

lacks : (c : goal.In_ok-insert) → IsAt c.args.self.now c.args.number c.args.index → ⊥
lacks c at = false≢true (sym c.if-not-is_at.true ∙ c.is_at.ensures.1 at)

gains : (c : goal.In_ok-insert) (n : ℕ)
    → slot_for c.insert.new.self.items n ≡ (if eqb c.args.number n then Some None else slot_for c.args.self.now n)
gains c n =
    let is = inserted c.args.self.now c.args.number c.args.index c.requires (lacks c) None n in
    rw (c.in_ok-insert.ensures.items, c.self.view_is) is

module _ (c : goal.In_ok-insert) where
  abbrev lacked : slot_for c.args.self.now c.args.number ≡ None
  lacked = absent c.args.self.now c.args.number c.args.index c.requires (lacks c)

pub returns-in_ok-insert-clause-room : goal.returns-in_ok-insert-clause-room
returns-in_ok-insert-clause-room c = room-made c.args.number (slot_for c.args.self.now) (slot_for c.insert.new.self.items) (lacked c) (gains c)

pub returns-in_ok-insert-clause-stays : goal.returns-in_ok-insert-clause-stays
returns-in_ok-insert-clause-stays c = room-stays c.args.number (slot_for c.args.self.now) (slot_for c.insert.new.self.items) (lacked c) (gains c)

pub returns-in_ok-insert-clause-same : goal.returns-in_ok-insert-clause-same
returns-in_ok-insert-clause-same c = room-same c.args.number (slot_for c.args.self.now) (slot_for c.insert.new.self.items) (lacked c) (gains c)

pub returns-else-not-is_at-clause-room : goal.returns-else-not-is_at-clause-room
returns-else-not-is_at-clause-room c =
    let rising : AreRising c.args.self.now = subst AreRising c.self.view_is c.self.invariant in
    ap is_some (found c.args.self.now rising c.args.number c.args.index (c.is_at.ensures.0 c.if-not-is_at.false))
