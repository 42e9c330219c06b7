use Rattle.std.proofs.Common.{◌≡◌, ◌++◌, ◌-◌}
use Rattle.std.specs.FinMap.{get}
use Rattle.std.specs.List.{flat_map, range_with_len}
use Rattle.desk_adopt.specs.Findings.{of_place}
use Rattle.desk_adopt.proofs.place_findings.add_places.Given as goal

-- what was found of the places before this one
abbrev pub invariant-loop-priority : goal.invariant-loop-priority
invariant-loop-priority l = l.findings.items ≡ l.initial.findings.items
    ++ flat_map (λ priority. of_place l.building l.point priority (get l.places priority)) (range_with_len 1 (l.priority - 1))
