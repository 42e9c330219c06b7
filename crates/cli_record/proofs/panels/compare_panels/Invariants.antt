use Rattle.std.proofs.Common.{◌≡◌, ◌++◌, Ok, take}
use Rattle.std.specs.List.{flat_map}
use Rattle.cli_record.specs.Compared.{Compares}
use Rattle.cli_record.specs.Differences.{of_panel}
use Rattle.cli_record.proofs.panels.compare_panels.Given as goal

-- where those so far differ
abbrev pub invariant-loop-panel : goal.invariant-loop-panel
invariant-loop-panel g l =
    Compares (λ held recorded _. l.found.items ≡ l.initial.found.items ++ flat_map (of_panel held recorded) (take l.panel-index l.panels))
    (Ok (tt {0})) (g.S.Store.standing l.initial.store) (g.S.Store.standing l.store) (g.T.Store.standing l.initial.other) (g.T.Store.standing l.other)
