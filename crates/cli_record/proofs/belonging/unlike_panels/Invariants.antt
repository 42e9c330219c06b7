use Rattle.std.proofs.Common.{Ok, take}
use Rattle.cli_record.specs.Belonging.{AlikeAtPanels}
use Rattle.cli_record.specs.Compared.{Compares}
use Rattle.cli_record.proofs.belonging.unlike_panels.Given as goal

-- the panels so far are alike
abbrev pub invariant-loop-panel : goal.invariant-loop-panel
invariant-loop-panel g l =
    Compares (λ held recorded _. AlikeAtPanels held recorded (take l.panel-index l.panels))
    (Ok (tt {0})) (g.S.Store.standing l.initial.store) (g.S.Store.standing l.store) (g.T.Store.standing l.initial.other) (g.T.Store.standing l.other)
