use Rattle.std.proofs.Common.{◌≡◌, None, take}
use Rattle.desk_adopt.specs.Adopted.{no_next}
use Rattle.desk_adopt.specs.Renamed.{at_items, former}
use Rattle.points.specs.declared.panel.Panel.{Panel}
use Rattle.store.specs.Change.{with_each, with_next}
use Rattle.store.specs.Standing.{Reads}
use Rattle.points.specs.Texts.{Text}
use Rattle.desk_adopt.proofs.panels.adopted_nexts.Given as goal

-- the panels so far
abbrev pub invariant-loop-panel : goal.invariant-loop-panel
invariant-loop-panel g l =
    let first = g.S.Store.standing l.initial.store in
    record {
      reads : Reads None first (g.S.Store.standing l.store);
      kept : (g.S.Store.standing l.store).is_honest → (q : Text) → with_each with_next l.nexts.items no_next q
          ≡ at_items (λ (it : Panel). it.name) (take l.panel-index l.panels) (former l.renamings first.content.tables.next 1) 1 q;
    }
