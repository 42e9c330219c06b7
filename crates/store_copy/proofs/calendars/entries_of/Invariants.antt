use Rattle.std.proofs.Common.{false, take}
use Rattle.store.specs.Change.{with_each, with_imported}
use Rattle.store.specs.Tables.{no_tables}
use Rattle.store_copy.proofs.NameLemmas.{ReadsEach}
use Rattle.store_copy.proofs.calendars.entries_of.Given as goal

-- the calendars so far
abbrev pub invariant-loop-calendar : goal.invariant-loop-calendar
invariant-loop-calendar g l =
    ReadsEach (g.S.Store.standing l.initial.store) (g.S.Store.standing l.store)
    (with_each with_imported l.items.items no_tables.imported)
    (take l.calendar-index l.calendars) (λ tables. tables.imported) false
