use Rattle.std.proofs.Common.{[], ◌∷◌, codes}
use Rattle.sqlite.specs.Held.{state}
use Rattle.store_sql_rows.specs.Schema.{panel_tree}
use Rattle.store_sql_rows.proofs.PanelLemmas.{panel_cells}
use Rattle.store_sql_rows.proofs.PanelTexts.{next_name_runs, next_name_sure, next_name_text}
use Rattle.store_sql_rows.proofs.RestLemmas.{least_name, reads_made}
use Rattle.store_sql_rows.proofs.panels.next_name.Goals as goal

pub ask-requires : goal.ask-requires
ask-requires g c = rw c.words.ensures (next_name_sure c.args.from.now)

pub returns : goal.returns
returns g c = record {
  reads = reads_made c.ask.ensures.leaves (λ clean ours.
      least_name (λ v. v.items) next_name_text panel_tree (codes "name" ∷ []) next_name_runs c.args.from.now
      (state g.S.Store c.args.connection.now) (state g.S.Store c.ask.new.connection) c.ask.result ours
      (λ row h. panel_cells (state g.S.Store c.args.connection.now).now ours row h)
      (rw c.words.ensures at (c.ask.ensures.shown clean)));
}
