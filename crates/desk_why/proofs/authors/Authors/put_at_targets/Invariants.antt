use Rattle.std.proofs.Common.{◌&&◌, ◌==◌, option_copied, take}
use Rattle.std.specs.List.{list_any}
use Rattle.std.specs.Str.{bytes_eq}
use Rattle.desk_why.specs.Steps.{Becomes, put_where}
use Rattle.desk_why.proofs.authors.Authors.put_at_targets.Given as goal

-- it is put at the targets so far
abbrev pub invariant-loop-point : goal.invariant-loop-point
invariant-loop-point l = Becomes (put_where (λ q r. l.schedule.priority == r
    && list_any (λ target. bytes_eq target q) (take l.point-index l.point-items)) (option_copied l.held)) l.initial.self l.self
