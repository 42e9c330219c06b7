use Rattle.std.proofs.Common.{◌≡◌, ◌∙◌, ◌==◌, ℕ, ap, refl, Option, Some, IsSome, cond, true, false}
use Rattle.std.specs.HashMap as hash
use Rattle.std.specs.Str.{bytes_eq}
use Rattle.points.specs.declared.command_row.CommandRow.{CommandRow}
use Rattle.indexmap.specs.IndexMap.{with_value_at}
use Rattle.store_memory.specs.Held.{next_in, slot_in, table_at}
use Rattle.store_memory.specs.Slots.{flatten}
use Rattle.store_memory.proofs.HeldLemmas.{Alters, alters_at, changed, stands_for, written, both_tests, some_stays}
use Rattle.store_memory.proofs.panels.Panels.set_row.Goals.{After-set_row}
use Rattle.store_memory.proofs.panels.Panels.set_row.Goals as goal

row_put : (number n : ℕ) (row : CommandRow) (was : Option (Option CommandRow)) (now : Option (Option CommandRow))
    → now ≡ cond (number == n) (Some (Some row)) was → flatten now ≡ cond (number == n) (Some row) (flatten was)
row_put number n row was now is =
    ap flatten is ∙ elim (number == n) as (λ b. flatten (cond b (Some (Some row)) was) ≡ cond b (Some row) (flatten was))
    [ true ↦ refl | false ↦ refl ]

alters : (c : After-set_row) → Alters c.args.item.now.panel (Some c.in-Some-get_index_mut.table.now) c.set_row.new.self (table_at c.args.self.now)
    (hash.get bytes_eq (with_value_at c.args.self.now.tables c.in-Some.index c.set_row.new.self))
alters c = alters_at c.args.self.now.tables c.in-Some.index c.args.item.now.panel c.in-Some-get_index_mut.table.now c.set_row.new.self
    c.get_index_mut.ensures.unique c.in-Some.ensures.entry c.in-Some-get_index_mut.ensures.value

pub returns-in-Some-get_index_mut-clause-rows : goal.returns-in-Some-get_index_mut-clause-rows
returns-in-Some-get_index_mut-clause-rows c = λ q n.
    let item = c.args.item.now in
    written (alters (goal.at.returns-in-Some-get_index_mut-clause-rows c).After-set_row) (λ o. flatten (slot_in o n)) (λ row. cond (item.number == n) (Some item.row) row) q
    (row_put item.number n item.row (slot_in (Some c.in-Some-get_index_mut.table.now) n) (slot_in (Some c.set_row.new.self) n) (c.set_row.ensures.slots n))
    ∙ both_tests (bytes_eq item.panel q) (item.number == n) (Some item.row) (flatten (slot_in (table_at c.args.self.now q) n))

pub returns-in-Some-get_index_mut-clause-next : goal.returns-in-Some-get_index_mut-clause-next
returns-in-Some-get_index_mut-clause-next c = λ q. stands_for (alters (goal.at.returns-in-Some-get_index_mut-clause-next c).After-set_row) next_in q c.set_row.ensures.next

pub returns-in-Some-get_index_mut-clause-room : goal.returns-in-Some-get_index_mut-clause-room
returns-in-Some-get_index_mut-clause-room c =
    let change = alters (goal.at.returns-in-Some-get_index_mut-clause-room c).After-set_row in
    record {
      tables = λ q. changed change (λ o n. IsSome o → IsSome n) q (λ here. refl) (λ o here. here);
      slots = λ q n. changed change (λ o m. IsSome (slot_in o n) → IsSome (slot_in m n)) q
          (some_stays (c.args.item.now.number == n) (Some c.args.item.now.row) (slot_in (Some c.in-Some-get_index_mut.table.now) n)
          (slot_in (Some c.set_row.new.self) n) (c.set_row.ensures.slots n))
          (λ o here. here);
    }
