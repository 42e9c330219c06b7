use Rattle.std.proofs.Common.{sym, refl, Some}
use Rattle.std.specs.HashMap as hash
use Rattle.std.specs.Str.{bytes_eq}
use Rattle.store_memory.specs.Held.{shown_slot}
use Rattle.store_memory.specs.Slots.{flatten}
use Rattle.store_memory.proofs.HeldLemmas.{Alters, written}
use Rattle.store_memory.proofs.shown_values.ShownValues.set_shown.Goals.{In-Some}
use Rattle.store_memory.proofs.shown_values.ShownValues.set_shown.Goals as goal

alters : (c : In-Some) → Alters c.args.item.now.schedule (Some c.in-Some.slot.now) c.args.item.now.shown (shown_slot c.args.self.now)
    (hash.get bytes_eq (c.get_mut.follows.lender c.args.item.now.shown))
alters c = record {
  before = sym c.in-Some.ensures.value;
  after = ((c.get_mut.follows.holds c.args.item.now.shown).3 c.requires).0;
}

pub returns-in-Some-clause-shown : goal.returns-in-Some-clause-shown
returns-in-Some-clause-shown c = λ q. written (alters (goal.at.returns-in-Some-clause-shown c).In-Some) flatten (λ shown. c.args.item.now.shown) q refl
