use Rattle.std.proofs.Common.{◌≡◌, ◌++◌, ◌-◌}
use Rattle.std.specs.FinMap.{get}
use Rattle.std.specs.List.{flat_map, range_with_len}
use Rattle.cli_record.specs.Differences.{of_value}
use Rattle.cli_record.proofs.places.compare_point.Given as goal

-- where the places before this one differ
abbrev pub invariant-loop-priority : goal.invariant-loop-priority
invariant-loop-priority g l = l.found.items ≡ l.initial.found.items
    ++ flat_map (λ priority. of_value l.point.name priority (get l.held priority) (get l.recorded priority))
    (range_with_len 1 (l.priority - 1))
