use Rattle.std.proofs.Common.{◌∙◌, Some, None, nat_lt, cond}
use Rattle.std.specs.HashMap as hash
use Rattle.std.specs.Str.{bytes_eq}
use Rattle.indexmap.specs.IndexMap.{with_value_at}
use Rattle.store_memory.specs.Held.{next_in, slot_in, table_at}
use Rattle.store_memory.specs.Slots.{flatten}
use Rattle.store_memory.proofs.HeldLemmas.{Alters, alters_at, stands_for, written, both_tests}
use Rattle.store_memory.proofs.panels.Panels.drop_below.Goals.{After-drop_below}
use Rattle.store_memory.proofs.panels.Panels.drop_below.Goals as goal

alters : (c : After-drop_below) → Alters c.args.item.now.panel (Some c.in-Some-get_index_mut.table.now) c.drop_below.new.self (table_at c.args.self.now)
    (hash.get bytes_eq (with_value_at c.args.self.now.tables c.in-Some.index c.drop_below.new.self))
alters c = alters_at c.args.self.now.tables c.in-Some.index c.args.item.now.panel c.in-Some-get_index_mut.table.now c.drop_below.new.self
    c.get_index_mut.ensures.unique c.in-Some.ensures.entry c.in-Some-get_index_mut.ensures.value

pub returns-in-Some-get_index_mut-clause-rows : goal.returns-in-Some-get_index_mut-clause-rows
returns-in-Some-get_index_mut-clause-rows c = λ q n.
    let item = c.args.item.now in
    written (alters (goal.at.returns-in-Some-get_index_mut-clause-rows c).After-drop_below) (λ o. flatten (slot_in o n)) (λ row. cond (nat_lt n item.number) None row) q (c.drop_below.ensures.rows n)
    ∙ both_tests (bytes_eq item.panel q) (nat_lt n item.number) None (flatten (slot_in (table_at c.args.self.now q) n))

pub returns-in-Some-get_index_mut-clause-next : goal.returns-in-Some-get_index_mut-clause-next
returns-in-Some-get_index_mut-clause-next c = λ q. stands_for (alters (goal.at.returns-in-Some-get_index_mut-clause-next c).After-drop_below) next_in q c.drop_below.ensures.next
