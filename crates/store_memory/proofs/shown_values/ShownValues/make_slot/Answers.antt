use Rattle.std.proofs.Common.{◌∙◌, sym, refl, None}
use Rattle.std.specs.HashMap as hash
use Rattle.std.specs.Str.{bytes_eq}
use Rattle.store_memory.specs.Held.{shown_slot}
use Rattle.store_memory.specs.Slots.{flatten}
use Rattle.store_memory.proofs.HeldLemmas.{Alters, is_none, stands_for}
use Rattle.store_memory.proofs.shown_values.ShownValues.make_slot.Goals.{In_ok-insert}
use Rattle.store_memory.proofs.shown_values.ShownValues.make_slot.Goals as goal

alters : (c : In_ok-insert) → Alters c.args.schedule.now None None (shown_slot c.args.self.now) (hash.get bytes_eq c.insert.new.self)
alters c = record {
  before = is_none _ (sym c.contains_key.ensures ∙ c.if-not-contains_key.true);
  after = c.in_ok-insert.ensures.updates.0;
}

pub returns-in_ok-insert-clause-same : goal.returns-in_ok-insert-clause-same
returns-in_ok-insert-clause-same c = λ q. stands_for (alters (goal.at.returns-in_ok-insert-clause-same c).In_ok-insert) flatten q refl
