use Rattle.std.proofs.Common.{◌≡◌, ◌++◌, replicate, string_bytes}
use Rattle.points.proofs.point_lines.push_spaces.Given as goal

abbrev pub invariant-loop-pushed : goal.invariant-loop-pushed
invariant-loop-pushed l = string_bytes l.line ≡ string_bytes l.initial.line ++ replicate l._pushed 32
