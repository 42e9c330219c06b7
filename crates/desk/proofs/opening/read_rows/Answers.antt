use Rattle.std.proofs.Common.{◌≡◌}
use Rattle.desk.proofs.OpeningLemmas.{nexts-stood}
use Rattle.desk.proofs.opening.read_rows.Goals as goal

pub returns-clause-stood : goal.returns-clause-stood
returns-clause-stood g c honest =
    let was = c.read_nexts.ensures.reads.goes.honest honest in
    nexts-stood c.read_nexts.result c.args.building.now.calendars c.args.panels.now (g.S.Store.standing c.args.store.now)
    (g.S.Store.standing c.read_entries.new.store)
    (c.in_ok-read_entries.ensures.reads.rows was (λ e. cc))
    (rw c.calendars.ensures at (c.in_ok-read_entries.ensures.stood was)) (c.read_nexts.ensures.stood honest)
