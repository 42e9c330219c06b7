use Rattle.std.proofs.Common.{sym, refl, subst, Some, IsSome}
use Rattle.std.specs.Cmp.Lexicographic.{nat_list_eq_equiv}
use Rattle.std.specs.HashMap as hash
use Rattle.std.specs.Str.{bytes_eq}
use Rattle.indexmap.specs.IndexMap.{with_value_at}
use Rattle.store_memory.specs.Held.{next_in, slot_in, table_at}
use Rattle.store_memory.specs.Slots.{flatten}
use Rattle.store_memory.proofs.HeldLemmas.{Alters, OnOk-then, alters_at, changed, stands_for}
use Rattle.store_memory.proofs.panels.Panels.make_slot.Goals.{After-make_room}
use Rattle.store_memory.proofs.panels.Panels.make_slot.Goals as goal

alters : (c : After-make_room) → Alters c.args.panel.now (Some c.in-Some-get_index_mut.table.now) c.make_room.new.self (table_at c.args.self.now)
    (hash.get bytes_eq (with_value_at c.args.self.now.tables c.in-Some.index c.make_room.new.self))
alters c = alters_at c.args.self.now.tables c.in-Some.index c.args.panel.now c.in-Some-get_index_mut.table.now c.make_room.new.self
    c.get_index_mut.ensures.unique c.in-Some.ensures.entry c.in-Some-get_index_mut.ensures.value

pub returns-in-Some-get_index_mut-clause-grows : goal.returns-in-Some-get_index_mut-clause-grows
returns-in-Some-get_index_mut-clause-grows c =
    let change = alters (goal.at.returns-in-Some-get_index_mut-clause-grows c).After-make_room in
    record {
      room = record {
        tables = λ q. changed change (λ o n. IsSome o → IsSome n) q (λ here. refl) (λ o here. here);
        slots = λ q number. changed change (λ o n. IsSome (slot_in o number) → IsSome (slot_in n number)) q
            (c.make_room.ensures.stays number) (λ o here. here);
      };
      next = λ q. stands_for change next_in q c.make_room.ensures.next;
      rows = λ q number. stands_for change (λ o. flatten (slot_in o number)) q (c.make_room.ensures.same number);
    }

pub returns-in-Some-get_index_mut-clause-room : goal.returns-in-Some-get_index_mut-clause-room
returns-in-Some-get_index_mut-clause-room c =
    let change = alters (goal.at.returns-in-Some-get_index_mut-clause-room c).After-make_room in
    let here = rw (nat_list_eq_equiv.refl c.args.panel.now) at (change.after c.args.panel.now) in
    OnOk-then c.make_room.result _ _ c.make_room.ensures.room (λ room. subst (λ o. IsSome (slot_in o c.args.number)) (sym here) room)
