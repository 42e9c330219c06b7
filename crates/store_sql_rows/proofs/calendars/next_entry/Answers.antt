use Rattle.sqlite.specs.Held.{state}
use Rattle.store_sql_rows.proofs.ImportedLemmas.{next_entry_shown}
use Rattle.store_sql_rows.proofs.ImportedTexts.{next_entry_sure}
use Rattle.store_sql_rows.proofs.RestLemmas.{reads_made}
use Rattle.store_sql_rows.proofs.calendars.next_entry.Goals as goal

pub ask-requires : goal.ask-requires
ask-requires g c = rw (c.text.ensures, c.words.ensures) (next_entry_sure c.args.calendar.now c.args.from.now)

pub returns : goal.returns
returns g c = record {
  reads = reads_made c.ask.ensures.leaves (λ clean ours.
      next_entry_shown (λ v. v.items) c.args.calendar.now c.args.from.now (state g.S.Store c.args.connection.now)
      (state g.S.Store c.ask.new.connection) c.ask.result ours
      (rw (c.text.ensures, c.words.ensures) at (c.ask.ensures.shown clean)));
}
