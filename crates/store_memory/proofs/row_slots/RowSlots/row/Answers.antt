use Rattle.std.proofs.Common.{◌≡◌, ◌∙◌, get_or, sym, ap, subst}
use Rattle.std.proofs.lemmas.List.{get_or_default}
use Rattle.store_memory.specs.declared.row_slots.RowSlot.{RowSlot}
use Rattle.store_memory.specs.Slots.{flatten}
use Rattle.store_memory.specs.RowSlots.{IsAt, no_slot, row_for}
use Rattle.store_memory.proofs.RowSlotLemmas.{found}
use Rattle.store_memory.proofs.row_slots.RowSlots.row.Goals as goal

pub returns-in-Some : goal.returns-in-Some
returns-in-Some c =
    let slots = c.self.inside.slots.items in
    let index = c.in_ok-index.index in
    let at : IsAt slots c.args.number index = subst (λ s. IsAt s c.args.number index) (sym c.self.view_is) c.in_ok-index.ensures in
    let slot = c.in-Some.slot.now in
    let is : slot ≡ get_or slots index no_slot = c.in-Some.ensures.lookup ∙ get_or_default slots index slot no_slot at.within in
    ap (λ (s : RowSlot). s.row) is ∙ sym (ap flatten (found slots c.self.invariant c.args.number index at))
    ∙ ap (λ s. row_for s c.args.number) c.self.view_is
