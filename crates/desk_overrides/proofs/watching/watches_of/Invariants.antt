use Rattle.std.proofs.Common.{◌≡◌, [], map, take}
use Rattle.std.specs.List.{All}
use Rattle.points.specs.declared.point.Point.{Point}
use Rattle.desk_overrides.specs.declared.watch.Watch.{Watch}
use Rattle.desk_overrides.specs.Watched.{Knows}
use Rattle.desk_overrides.proofs.watching.watches_of.Given as goal

abbrev pub invariant-loop-point : goal.invariant-loop-point
invariant-loop-point l = record {
  points : map (λ (watch : Watch). watch.point) l.watches.items ≡ map (λ (point : Point). point.name) (take l.point-index l.point-items);
  known : All (λ (watch : Watch). Knows watch []) l.watches.items;
}
