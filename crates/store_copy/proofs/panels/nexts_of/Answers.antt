use Rattle.std.proofs.Common.{arith}
use Rattle.store_copy.specs.Named.{next_over}
use Rattle.store_copy.proofs.NameLemmas.{next_over-again, next_over-anew, read-step}
use Rattle.store_copy.proofs.panels.nexts_of.Goals as goal

pub loop-panel-preserved : goal.loop-panel-preserved
loop-panel-preserved g c =
    read-step next_over 1 next_over-again next_over-anew (λ tables. tables.next) (g.S.Store.standing c.args.store.now)
    (g.S.Store.standing c.loop-panel.store) (g.S.Store.standing c.panel_next.new.self) _ _ c.args.panels.now c.loop-panel.panel-index
    c.panel-item.result c.loop-panel.invariant c.in_ok-next.ensures.reads (omega (arith, c.loop-panel-test.true)) c.panel-item.is
    (λ honest. rw (c.in_ok-next.ensures.value honest) at c.in_ok-add_next.ensures)
