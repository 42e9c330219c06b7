use Rattle.std.proofs.Common.{◌≡◌, drop, map}
use Rattle.desk_why.specs.Authors.{priorities}
use Rattle.desk_why.specs.AuthorsTable.{held_in}
use Rattle.desk_overrides.specs.Overrides.{given_in}
use Rattle.desk_overrides.specs.Watched.{given_from, place_in}
use Rattle.desk_overrides.proofs.looking.given_at.Given as goal

-- no place of the priorities so far holds a value
abbrev pub invariant-loop-priority : goal.invariant-loop-priority
invariant-loop-priority l = given_from (held_in l.authors l.point)
    ≡ given_in (map (place_in (held_in l.authors l.point)) (drop l.priority-index priorities))
