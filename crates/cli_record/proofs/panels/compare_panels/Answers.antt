use Rattle.std.proofs.Common.{◌<◌, arith, length}
use Rattle.cli_record.specs.Differences.{of_panel}
use Rattle.cli_record.proofs.ComparesLemmas.{compares-then}
use Rattle.cli_record.proofs.WalkLemmas.{walk-more}
use Rattle.cli_record.proofs.panels.compare_panels.Goals as goal

pub loop-panel-preserved : goal.loop-panel-preserved
loop-panel-preserved g c =
    let held = (g.S.Store.standing c.args.store.now).content.tables in
    let recorded = (g.T.Store.standing c.args.other.now).content.tables in
    let below : c.loop-panel.panel-index < length c.args.panels.now = omega arith in
    compares-then c.loop-panel.invariant c.in_ok-compare_panel.ensures (λ so_far more.
    walk-more (of_panel held recorded) c.args.found.now.items c.loop-panel.found.items c.compare_panel.new.found.items c.args.panels.now
    c.loop-panel.panel-index c.panel-item.result below c.panel-item.is so_far more)
