use Rattle.std.proofs.Common.{take, subst}
use Rattle.panel.specs.declared.moves.Move.{Move}
use Rattle.panel.specs.Replayed.{Refuses, replayed}
use Rattle.panel.proofs.ReplayLemmas.{refused-at}
use Rattle.panel.proofs.panel_end.PanelEnd.replay.Goals as goal

pub returns-in-Err-clause-faults : goal.returns-in-Err-clause-faults
returns-in-Err-clause-faults c = λ run ran.
    let moves = c.args.moves.now in
    let earlier = replayed run (take c.loop-made.made-index moves) in
    let refuses = c.in-Err.ensures.faults earlier (c.loop-made.invariant.ran run ran) in
    refused-at c.in-Err.fault run moves c.loop-made.made-index c.made-item.result c.loop-made-test.true
    (subst (λ (made : Move). Refuses c.in-Err.fault earlier made) c.made-item.is refuses)
