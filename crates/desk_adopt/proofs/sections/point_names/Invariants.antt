use Rattle.std.proofs.Common.{◌≡◌, map, take}
use Rattle.points.specs.declared.point.Point.{Point}
use Rattle.desk_adopt.proofs.sections.point_names.Given as goal

-- the names so far
abbrev pub invariant-loop-point : goal.invariant-loop-point
invariant-loop-point l = l.names.items ≡ map (λ (it : Point). it.name) (take l.point-index l.building.points)
