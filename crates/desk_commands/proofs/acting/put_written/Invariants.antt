use Rattle.std.proofs.Common.{◌≡◌, drop}
use Rattle.desk_commands.specs.Written.{places_at}
use Rattle.desk_commands.proofs.acting.put_written.Given as goal

abbrev pub invariant-loop-value : goal.invariant-loop-value
invariant-loop-value l = places_at l.point (drop l.value-index l.values) l.array ≡ places_at l.point l.values l.initial.array
