use Rattle.sqlite.specs.Held.{state}
use Rattle.store_sql_rows.proofs.DeskLemmas.{find_shown}
use Rattle.store_sql_rows.proofs.DeskTexts.{find_sure}
use Rattle.store_sql_rows.proofs.RestLemmas.{reads_made}
use Rattle.store_sql_rows.proofs.desk_row.find.Goals as goal

pub ask-requires : goal.ask-requires
ask-requires g c = find_sure

pub returns : goal.returns
returns g c = record {
  reads = reads_made c.ask.ensures.leaves (λ clean ours.
      find_shown (λ v. v.items) (state g.S.Store c.args.connection.now) (state g.S.Store c.ask.new.connection) c.ask.result
      ours.schema_is (c.ask.ensures.shown clean));
}
