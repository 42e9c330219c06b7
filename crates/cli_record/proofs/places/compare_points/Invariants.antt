use Rattle.std.proofs.Common.{◌≡◌, ◌++◌, Ok, take}
use Rattle.std.specs.List.{flat_map}
use Rattle.cli_record.specs.Compared.{Compares}
use Rattle.cli_record.specs.Differences.{of_point}
use Rattle.cli_record.proofs.places.compare_points.Given as goal

-- where those so far differ
abbrev pub invariant-loop-point : goal.invariant-loop-point
invariant-loop-point g l =
    Compares (λ held recorded _. l.found.items ≡ l.initial.found.items ++ flat_map (of_point held recorded) (take l.point-index l.points))
    (Ok (tt {0})) (g.S.Store.standing l.initial.store) (g.S.Store.standing l.store) (g.T.Store.standing l.initial.other) (g.T.Store.standing l.other)
