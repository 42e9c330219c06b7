use Rattle.std.proofs.Common.{◌≡◌, ◌++◌, take, string_bytes}
use Rattle.std.specs.List.{flat_map}
use Rattle.building_hints.specs.HintLines.{shared_hint}
use Rattle.building_hints.proofs.shared_places.push_points.Given as goal

-- the hints so far
abbrev pub invariant-loop-point : goal.invariant-loop-point
invariant-loop-point l = string_bytes l.text ≡ string_bytes l.initial.text ++ flat_map (shared_hint l.earlier l.later) (take l.point-index l.point-items)
