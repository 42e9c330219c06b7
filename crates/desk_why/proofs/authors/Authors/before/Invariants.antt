use Rattle.std.proofs.Common.{◌≡◌, take}
use Rattle.std.specs.List.{list_any}
use Rattle.std.specs.Str.{bytes_eq}
use Rattle.store_memory.specs.Memory.{standing_of}
use Rattle.points.specs.declared.point.Point.{Point}
use Rattle.desk_why.specs.Steps.{HaveBegun}
use Rattle.desk_why.proofs.authors.Authors.before.Given as goal

-- the points so far have begun
abbrev pub invariant-loop-point : goal.invariant-loop-point
invariant-loop-point l = record {
  same : (standing_of l.store).content ≡ (standing_of l.initial.store).content;
  begun : HaveBegun (standing_of l.initial.store).content.tables.places
      (λ q. list_any (λ (point : Point). bytes_eq point.name q) (take l.point-index l.point-items)) l.authors;
}
