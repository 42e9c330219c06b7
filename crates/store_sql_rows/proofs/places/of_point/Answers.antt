use Rattle.sqlite.specs.Held.{state}
use Rattle.store_sql_rows.proofs.PlaceLemmas.{of_point_shown}
use Rattle.store_sql_rows.proofs.PlaceTexts.{of_point_sure}
use Rattle.store_sql_rows.proofs.RestLemmas.{reads_made}
use Rattle.store_sql_rows.proofs.places.of_point.Goals as goal

pub ask-requires : goal.ask-requires
ask-requires g c = rw c.text.ensures (of_point_sure c.args.point.now)

pub returns : goal.returns
returns g c = record {
  reads = reads_made c.ask.ensures.leaves (λ clean ours.
      of_point_shown (λ v. v.items) c.args.point.now (state g.S.Store c.args.connection.now) (state g.S.Store c.ask.new.connection)
      c.ask.result ours
      (rw c.text.ensures at (c.ask.ensures.shown clean)));
}
