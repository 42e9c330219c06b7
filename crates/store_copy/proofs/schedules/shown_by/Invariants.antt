use Rattle.std.proofs.Common.{None, take}
use Rattle.store.specs.Change.{with_each, with_shown}
use Rattle.store.specs.Tables.{no_tables}
use Rattle.store_copy.proofs.NameLemmas.{ReadsNamed}
use Rattle.store_copy.proofs.schedules.shown_by.Given as goal

-- the schedules so far
abbrev pub invariant-loop-schedule : goal.invariant-loop-schedule
invariant-loop-schedule g l =
    ReadsNamed (g.S.Store.standing l.initial.store) (g.S.Store.standing l.store) (with_each with_shown l.items.items no_tables.shown)
    (take l.schedule-index l.schedules) (λ tables. tables.shown) None
