use Rattle.sqlite.specs.Held.{state}
use Rattle.store_sql_rows.proofs.PanelLemmas.{adds}
use Rattle.store_sql_rows.proofs.RunLemmas.{moves_made, refused_inside}
use Rattle.store_sql_rows.proofs.panels.add.Goals as goal

pub returns-clause-moves : goal.returns-clause-moves
returns-clause-moves g c =
    moves_made c.run.ensures.same_reference c.run.ensures.kept c.run.ensures.survives (λ clean inside.
    adds c.args.panel.now c.args.next (state g.S.Store c.args.transaction.now.conn.now)
    (state g.S.Store c.run.new.transaction.conn.now) c.run.result inside
    (rw (c.text.ensures, c.count.ensures) at (c.run.ensures.runs clean inside.in_transaction)))

pub returns-clause-refused : goal.returns-clause-refused
returns-clause-refused g c clean inside is =
    refused_inside _ _ (state g.S.Store c.args.transaction.now.conn.now) (state g.S.Store c.run.new.transaction.conn.now)
    c.run.result inside.in_transaction (c.run.ensures.runs clean inside.in_transaction) is
