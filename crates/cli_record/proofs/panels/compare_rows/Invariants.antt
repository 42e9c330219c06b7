use Rattle.std.proofs.Common.{◌≡◌, ◌++◌, ◌-◌, Ok}
use Rattle.std.specs.List.{flat_map, range_with_len}
use Rattle.cli_record.specs.Compared.{Compares}
use Rattle.cli_record.specs.Differences.{of_command}
use Rattle.cli_record.proofs.panels.compare_rows.Given as goal

-- where the rows before this one differ
abbrev pub invariant-loop-number : goal.invariant-loop-number
invariant-loop-number g l =
    Compares (λ held recorded _. l.found.items ≡ l.initial.found.items
    ++ flat_map (of_command l.panel (held.row l.panel) (recorded.row l.panel)) (range_with_len l.from (l.number - l.from)))
    (Ok (tt {0})) (g.S.Store.standing l.initial.store) (g.S.Store.standing l.store) (g.T.Store.standing l.initial.other) (g.T.Store.standing l.other)
