use Rattle.std.proofs.Common.{◌||◌, false, arith}
use Rattle.store_copy.proofs.EntryLemmas.{or-again, or-none}
use Rattle.store_copy.proofs.NameLemmas.{each-step}
use Rattle.store_copy.proofs.calendars.entries_of.Goals as goal

pub loop-calendar-preserved : goal.loop-calendar-preserved
loop-calendar-preserved g c =
    each-step (λ x y. x || y) false or-again or-none (λ tables. tables.imported) (g.S.Store.standing c.args.store.now)
    (g.S.Store.standing c.loop-calendar.store) (g.S.Store.standing c.add_entries.new.store) _ _ c.args.calendars.now c.loop-calendar.calendar-index
    c.calendar-item.result c.loop-calendar.invariant c.in_ok-add_entries.ensures.reads (omega (arith, c.loop-calendar-test.true))
    c.calendar-item.is c.in_ok-add_entries.ensures.added
