use Rattle.std.proofs.Common.{ap, refl, None, IsSome, is_some, ◌∙◌}
use Rattle.std.specs.HashMap as hash
use Rattle.std.specs.Str.{bytes_eq}
use Rattle.store_memory.specs.Held.{next_in, slot_in, table_at}
use Rattle.store_memory.specs.Slots.{flatten}
use Rattle.store_memory.proofs.HeldLemmas.{Alters, changed, stands_for}
use Rattle.store_memory.proofs.panels.Panels.make_table_for.Goals.{In_ok-insert}
use Rattle.store_memory.proofs.panels.Panels.make_table_for.Goals as goal

alters : (c : In_ok-insert) → Alters c.args.panel.now None c.make_room.new.self (table_at c.args.self.now) (hash.get bytes_eq c.insert.new.self)
alters c = record {
  before = c.requires;
  after = c.in_ok-insert.ensures.updates.0;
}

pub returns-clause-grows : goal.returns-clause-grows
returns-clause-grows c =
    let change = alters (goal.at.returns-clause-grows c).In_ok-insert in
    record {
      room = record {
        tables = λ q. changed change (λ o n. IsSome o → IsSome n) q (λ here. refl) (λ o here. here);
        slots = λ q number. changed change (λ o n. IsSome (slot_in o number) → IsSome (slot_in n number)) q
            (λ here. c.make_room.ensures.stays number (ap is_some (c.new-table.ensures.slots number) ∙ here)) (λ o here. here);
      };
      next = λ q. stands_for change next_in q (c.make_room.ensures.next ∙ c.new-table.ensures.next);
      rows = λ q number. stands_for change (λ o. flatten (slot_in o number)) q
          (c.make_room.ensures.same number ∙ ap flatten (c.new-table.ensures.slots number));
    }
