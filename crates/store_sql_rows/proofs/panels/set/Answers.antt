use Rattle.sqlite.specs.Held.{state}
use Rattle.store_sql_rows.proofs.PanelLemmas.{sets}
use Rattle.store_sql_rows.proofs.RunLemmas.{moves_made}
use Rattle.store_sql_rows.proofs.panels.set.Goals as goal

pub returns : goal.returns
returns g c = record {
  moves = moves_made c.run.ensures.same_reference c.run.ensures.kept c.run.ensures.survives (λ clean inside.
      sets c.args.panel.now c.args.next (state g.S.Store c.args.transaction.now.conn.now)
      (state g.S.Store c.run.new.transaction.conn.now) c.run.result inside
      (rw (c.text.ensures, c.count.ensures) at (c.run.ensures.runs clean inside.in_transaction)));
}
