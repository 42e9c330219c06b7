use Rattle.std.proofs.Common.{take}
use Rattle.store.specs.Change.{with_each, with_next}
use Rattle.store.specs.Tables.{no_tables}
use Rattle.store_copy.proofs.NameLemmas.{ReadsNamed}
use Rattle.store_copy.proofs.panels.nexts_of.Given as goal

-- the panels so far
abbrev pub invariant-loop-panel : goal.invariant-loop-panel
invariant-loop-panel g l =
    ReadsNamed (g.S.Store.standing l.initial.store) (g.S.Store.standing l.store) (with_each with_next l.nexts.items no_tables.next)
    (take l.panel-index l.panels) (λ tables. tables.next) 1
