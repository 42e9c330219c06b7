use Rattle.std.proofs.Common.{None, take}
use Rattle.store.specs.Change.{with_each, with_row}
use Rattle.store.specs.Tables.{no_tables}
use Rattle.store_copy.specs.Remembered.{remembered_row}
use Rattle.store_copy.proofs.NameLemmas.{ReadsEach}
use Rattle.store_copy.proofs.panels.rows_of.Given as goal

-- the panels so far
abbrev pub invariant-loop-panel : goal.invariant-loop-panel
invariant-loop-panel g l =
    ReadsEach (g.S.Store.standing l.initial.store) (g.S.Store.standing l.store) (with_each with_row l.rows.items no_tables.row)
    (take l.panel-index l.panels) (λ tables panel. remembered_row (tables.next panel) (tables.row panel)) None
