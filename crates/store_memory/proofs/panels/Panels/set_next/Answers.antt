use Rattle.std.proofs.Common.{refl, Some, IsSome}
use Rattle.std.specs.HashMap as hash
use Rattle.std.specs.Str.{bytes_eq}
use Rattle.store_memory.specs.declared.panel_table.PanelTable.{PanelTable}
use Rattle.indexmap.specs.IndexMap.{with_value_at}
use Rattle.store_memory.specs.Held.{next_in, slot_in, table_at}
use Rattle.store_memory.specs.Slots.{flatten}
use Rattle.store_memory.proofs.HeldLemmas.{Alters, alters_at, changed, stands_for, written}
use Rattle.store_memory.proofs.panels.Panels.set_next.Goals.{In-Some-get_index_mut}
use Rattle.store_memory.proofs.panels.Panels.set_next.Goals as goal

abbrev made : In-Some-get_index_mut → PanelTable
made c = record { next = c.args.item.now.next; rows = c.in-Some-get_index_mut.table.now.rows }

alters : (c : In-Some-get_index_mut) → Alters c.args.item.now.panel (Some c.in-Some-get_index_mut.table.now) (made c) (table_at c.args.self.now)
    (hash.get bytes_eq (with_value_at c.args.self.now.tables c.in-Some.index (made c)))
alters c = alters_at c.args.self.now.tables c.in-Some.index c.args.item.now.panel c.in-Some-get_index_mut.table.now (made c)
    c.get_index_mut.ensures.unique c.in-Some.ensures.entry c.in-Some-get_index_mut.ensures.value

pub returns-in-Some-get_index_mut-clause-next : goal.returns-in-Some-get_index_mut-clause-next
returns-in-Some-get_index_mut-clause-next c = λ q. written (alters (goal.at.returns-in-Some-get_index_mut-clause-next c).In-Some-get_index_mut) next_in (λ next. c.args.item.now.next) q refl

pub returns-in-Some-get_index_mut-clause-rows : goal.returns-in-Some-get_index_mut-clause-rows
returns-in-Some-get_index_mut-clause-rows c = λ q number. stands_for (alters (goal.at.returns-in-Some-get_index_mut-clause-rows c).In-Some-get_index_mut) (λ o. flatten (slot_in o number)) q refl

pub returns-in-Some-get_index_mut-clause-room : goal.returns-in-Some-get_index_mut-clause-room
returns-in-Some-get_index_mut-clause-room c =
    let change = alters (goal.at.returns-in-Some-get_index_mut-clause-room c).In-Some-get_index_mut in
    record {
      tables = λ q. changed change (λ o n. IsSome o → IsSome n) q (λ here. refl) (λ o here. here);
      slots = λ q number. changed change (λ o n. IsSome (slot_in o number) → IsSome (slot_in n number)) q (λ here. here) (λ o here. here);
    }
