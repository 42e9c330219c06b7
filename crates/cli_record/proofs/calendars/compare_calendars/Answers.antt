use Rattle.std.proofs.Common.{◌<◌, arith, length}
use Rattle.cli_record.proofs.ComparesLemmas.{compares-then}
use Rattle.cli_record.proofs.WalkLemmas.{calendar-more}
use Rattle.cli_record.proofs.calendars.compare_calendars.Goals as goal

pub loop-calendar-preserved : goal.loop-calendar-preserved
loop-calendar-preserved g c =
    let held = (g.S.Store.standing c.args.store.now).content.tables in
    let recorded = (g.T.Store.standing c.args.other.now).content.tables in
    let below : c.loop-calendar.calendar-index < length c.args.calendars.now = omega arith in
    compares-then c.loop-calendar.invariant c.in_ok-compare_calendar.ensures (λ so_far added.
    calendar-more held recorded c.args.calendars.now c.loop-calendar.calendar-index c.calendar-item.result
    c.args.found.now.items c.loop-calendar.found.items c.compare_calendar.new.found.items so_far.0 added.0 below c.calendar-item.is
    so_far.1 so_far.2 added.1 added.2)
