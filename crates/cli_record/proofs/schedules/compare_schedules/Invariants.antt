use Rattle.std.proofs.Common.{◌≡◌, ◌++◌, Ok, take}
use Rattle.std.specs.List.{flat_map}
use Rattle.cli_record.specs.Compared.{Compares}
use Rattle.cli_record.specs.Differences.{of_schedule}
use Rattle.cli_record.proofs.schedules.compare_schedules.Given as goal

-- where those so far differ
abbrev pub invariant-loop-schedule : goal.invariant-loop-schedule
invariant-loop-schedule g l =
    Compares (λ held recorded _. l.found.items ≡ l.initial.found.items ++ flat_map (of_schedule held recorded) (take l.schedule-index l.schedules))
    (Ok (tt {0})) (g.S.Store.standing l.initial.store) (g.S.Store.standing l.store) (g.T.Store.standing l.initial.other) (g.T.Store.standing l.other)
