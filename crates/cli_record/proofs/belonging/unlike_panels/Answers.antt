use Rattle.std.proofs.Common.{◌<◌, arith, length, sym}
use Rattle.cli_record.proofs.ComparesLemmas.{compares-as, compares-then}
use Rattle.cli_record.proofs.UnlikeLemmas.{all-panels, alike-none, panel-more}
use Rattle.cli_record.proofs.belonging.unlike_panels.Goals as goal

pub loop-panel-preserved : goal.loop-panel-preserved
loop-panel-preserved g c =
    let held = (g.S.Store.standing c.args.store.now).content.tables in
    let recorded = (g.T.Store.standing c.args.other.now).content.tables in
    let below : c.loop-panel.panel-index < length c.args.panels.now = omega arith in
    compares-then c.loop-panel.invariant c.in_ok-found.ensures (λ so_far one.
    panel-more _ c.args.panels.now c.loop-panel.panel-index c.panel-item.result below c.panel-item.is so_far
    (alike-none _ held recorded c.in_ok-found.found (sym c.if-is_some.ensures) one))

pub returns : goal.returns
returns g c = compares-as c.loop-panel.invariant (all-panels _ c.args.panels.now c.loop-panel.panel-index (omega arith))
