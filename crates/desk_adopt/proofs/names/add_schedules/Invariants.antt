use Rattle.std.proofs.Common.{◌≡◌, ◌++◌, take}
use Rattle.std.specs.List.{flat_map}
use Rattle.desk_adopt.specs.Findings.{of_schedule}
use Rattle.desk_adopt.proofs.names.add_schedules.Given as goal

-- what was found of the schedules so far
abbrev pub invariant-loop-name : goal.invariant-loop-name
invariant-loop-name l =
    l.findings.items ≡ l.initial.findings.items ++ flat_map (of_schedule l.building) (take l.name-index l.names)
