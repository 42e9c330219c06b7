use Rattle.sqlite.specs.Held.{state}
use Rattle.store_sql_rows.proofs.CommandLemmas.{drops}
use Rattle.store_sql_rows.proofs.DropFails.{drop_fails}
use Rattle.store_sql_rows.proofs.RunLemmas.{moves_made}
use Rattle.store_sql_rows.proofs.commands.drop_below.Goals as goal

pub returns : goal.returns
returns g c = record {
  moves = moves_made c.run.ensures.same_reference c.run.ensures.kept c.run.ensures.survives (λ clean inside.
      drops c.args.panel.now c.args.number (state g.S.Store c.args.transaction.now.conn.now)
      (state g.S.Store c.run.new.transaction.conn.now) c.run.result inside
      (rw (c.text.ensures, c.count.ensures) at (c.run.ensures.runs clean inside.in_transaction)));
  cause = λ clean inside.
      drop_fails c.args.panel.now c.args.number (state g.S.Store c.args.transaction.now.conn.now)
      (state g.S.Store c.run.new.transaction.conn.now) c.run.result inside
      (rw (c.text.ensures, c.count.ensures) at (c.run.ensures.runs clean inside.in_transaction));
}
