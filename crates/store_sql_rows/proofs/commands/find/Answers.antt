use Rattle.sqlite.specs.Held.{state}
use Rattle.store_sql_rows.proofs.CommandLemmas.{find_shown}
use Rattle.store_sql_rows.proofs.CommandTexts.{find_sure}
use Rattle.store_sql_rows.proofs.RestLemmas.{reads_made}
use Rattle.store_sql_rows.proofs.commands.find.Goals as goal

pub ask-requires : goal.ask-requires
ask-requires g c = rw (c.text.ensures, c.count.ensures) (find_sure c.args.panel.now c.args.number)

pub returns : goal.returns
returns g c = record {
  reads = reads_made c.ask.ensures.leaves (λ clean ours.
      find_shown (λ v. v.items) c.args.panel.now c.args.number (state g.S.Store c.args.connection.now)
      (state g.S.Store c.ask.new.connection) c.ask.result ours
      (rw (c.text.ensures, c.count.ensures) at (c.ask.ensures.shown clean)));
}
