use Rattle.std.proofs.Common.{◌≡◌, ℕ, None, take}
use Rattle.desk_adopt.specs.Adopted.{no_rows}
use Rattle.store_copy.specs.Remembered.{remembered_row}
use Rattle.desk_adopt.specs.Renamed.{at_items, former}
use Rattle.points.specs.declared.panel.Panel.{Panel}
use Rattle.store.specs.Change.{with_each, with_row}
use Rattle.store.specs.Standing.{Reads}
use Rattle.points.specs.Texts.{Text}
use Rattle.desk_adopt.proofs.panels.adopted_rows.Given as goal

-- the panels so far
abbrev pub invariant-loop-panel : goal.invariant-loop-panel
invariant-loop-panel g l =
    let first = g.S.Store.standing l.initial.store in
    record {
      reads : Reads None first (g.S.Store.standing l.store);
      kept : (g.S.Store.standing l.store).is_honest → (q : Text) (n : ℕ) → with_each with_row l.rows.items (λ _. no_rows) q n
          ≡ at_items (λ (it : Panel). it.name) (take l.panel-index l.panels) (λ name.
          remembered_row (former l.renamings first.content.tables.next 1 name) (former l.renamings first.content.tables.row no_rows name) n)
          None q;
    }
