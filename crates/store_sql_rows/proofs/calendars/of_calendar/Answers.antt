use Rattle.sqlite.specs.Held.{state}
use Rattle.store_sql_rows.proofs.ImportedLemmas.{of_calendar_shown}
use Rattle.store_sql_rows.proofs.ImportedTexts.{of_calendar_sure}
use Rattle.store_sql_rows.proofs.RestLemmas.{reads_made}
use Rattle.store_sql_rows.proofs.calendars.of_calendar.Goals as goal

pub ask-requires : goal.ask-requires
ask-requires g c = rw c.text.ensures (of_calendar_sure c.args.calendar.now)

pub returns : goal.returns
returns g c = record {
  reads = reads_made c.ask.ensures.leaves (λ clean ours.
      of_calendar_shown (λ v. v.items) c.args.calendar.now (state g.S.Store c.args.connection.now)
      (state g.S.Store c.ask.new.connection) c.ask.result ours
      (rw c.text.ensures at (c.ask.ensures.shown clean)));
}
