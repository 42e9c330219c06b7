use Rattle.std.proofs.Common.{None, arith}
use Rattle.store.specs.Tables.{no_tables}
use Rattle.store_copy.specs.Named.{or_else}
use Rattle.store_copy.specs.Remembered.{remembered_row}
use Rattle.store_copy.proofs.FillLemmas.{or_else-none, or_else-same}
use Rattle.store_copy.proofs.NameLemmas.{each-step}
use Rattle.store_copy.proofs.panels.rows_of.Goals as goal

pub loop-panel-preserved : goal.loop-panel-preserved
loop-panel-preserved g c =
    each-step or_else None or_else-same or_else-none (λ tables panel. remembered_row (tables.next panel) (tables.row panel)) (g.S.Store.standing c.args.store.now)
    (g.S.Store.standing c.loop-panel.store) (g.S.Store.standing c.put_rows.new.store) _ _ c.args.panels.now c.loop-panel.panel-index
    c.panel-item.result c.loop-panel.invariant c.in_ok-put_rows.ensures.reads (omega (arith, c.loop-panel-test.true)) c.panel-item.is
    (λ honest. c.in_ok-put_rows.ensures.added honest no_tables.row)
