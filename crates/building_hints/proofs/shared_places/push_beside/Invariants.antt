use Rattle.std.proofs.Common.{◌≡◌, ◌++◌, take, string_bytes}
use Rattle.std.specs.List.{flat_map}
use Rattle.building_hints.specs.HintLines.{shared_hints}
use Rattle.building_hints.proofs.shared_places.push_beside.Given as goal

-- the hints so far
abbrev pub invariant-loop-schedule : goal.invariant-loop-schedule
invariant-loop-schedule l = string_bytes l.text ≡ string_bytes l.initial.text ++ flat_map (shared_hints l.earlier) (take l.schedule-index l.later)
