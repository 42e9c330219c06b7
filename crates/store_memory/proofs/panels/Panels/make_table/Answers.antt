use Rattle.std.proofs.Common.{ap, refl, None, IsSome, is_some, ◌∙◌, rules}
use Rattle.std.specs.HashMap as hash
use Rattle.std.specs.Str.{bytes_eq}
use Rattle.store_memory.specs.Held.{next_in, slot_in, table_at}
use Rattle.store_memory.specs.Slots.{flatten}
use Rattle.store_memory.proofs.HeldLemmas.{Alters, changed, stands_for}
use Rattle.store_memory.proofs.panels.Panels.make_table.Goals.{In_ok-insert}
use Rattle.store_memory.proofs.panels.Panels.make_table.Goals as goal

alters : (c : In_ok-insert) → Alters c.args.panel.now None c.new.result (table_at c.args.self.now) (hash.get bytes_eq c.insert.new.self)
alters c = record {
  before = search rules;
  after = c.in_ok-insert.ensures.updates.0;
}

pub returns-in_ok-insert-clause-grows : goal.returns-in_ok-insert-clause-grows
returns-in_ok-insert-clause-grows c =
    let change = alters (goal.at.returns-in_ok-insert-clause-grows c).In_ok-insert in
    record {
      room = record {
        tables = λ q. changed change (λ o n. IsSome o → IsSome n) q (λ here. refl) (λ o here. here);
        slots = λ q number. changed change (λ o n. IsSome (slot_in o number) → IsSome (slot_in n number)) q
            (λ here. ap is_some (c.new.ensures.slots number) ∙ here) (λ o here. here);
      };
      next = λ q. stands_for change next_in q c.new.ensures.next;
      rows = λ q number. stands_for change (λ o. flatten (slot_in o number)) q (ap flatten (c.new.ensures.slots number));
    }
