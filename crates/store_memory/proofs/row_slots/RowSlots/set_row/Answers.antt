use Rattle.std.proofs.Common.{Some, sym, subst}
use Rattle.store_memory.specs.RowSlots.{IsAt}
use Rattle.store_memory.proofs.RowSlotLemmas.{rising-set, written}
use Rattle.store_memory.proofs.row_slots.RowSlots.set_row.Goals as goal

pub invariant_of-self : goal.invariant_of-self
invariant_of-self c =
    let slots = c.self.inside.slots.items in
    let at : IsAt slots c.args.number c.in-Some.index =
    subst (λ s. IsAt s c.args.number c.in-Some.index) (sym c.self.view_is) c.in-Some.ensures in
    rising-set slots c.self.invariant (record { number = c.args.number; row = Some c.args.row }) c.in-Some.index at

pub returns-in-Some : goal.returns-in-Some
returns-in-Some c = λ n.
    let slots = c.self.inside.slots.items in
    let at : IsAt slots c.args.number c.in-Some.index =
    subst (λ s. IsAt s c.args.number c.in-Some.index) (sym c.self.view_is) c.in-Some.ensures in
    let is = written slots c.self.invariant (record { number = c.args.number; row = Some c.args.row }) c.in-Some.index at n in
    rw (← c.self.view_is) is
