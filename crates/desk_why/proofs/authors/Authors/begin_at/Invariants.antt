use Rattle.std.proofs.Common.{◌≡◌, ℕ, ◌<◌, ◌&&◌, cond, nat_le, nat_lt}
use Rattle.std.specs.Str.{bytes_eq}
use Rattle.points.specs.PriorityArray.{HasSixteenPlaces}
use Rattle.points.specs.Texts.{Text}
use Rattle.desk_why.specs.Authors.{held_before}
use Rattle.desk_why.specs.AuthorsTable.{held_in}
use Rattle.desk_why.proofs.authors.Authors.begin_at.Given as goal

-- the places of the point are begun at the priorities so far
abbrev pub invariant-loop-priority : goal.invariant-loop-priority
invariant-loop-priority l = record {
  begun : (q : Text) (r : ℕ) → held_in l.self q r
      ≡ cond (bytes_eq l.point q && (nat_le 1 r && nat_lt r l.priority)) (held_before l.array r) (held_in l.initial.self q r);
  places : 1 < l.priority → HasSixteenPlaces l.array;
}
