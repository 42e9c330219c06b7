use Rattle.std.proofs.Common.{take}
use Rattle.delivery_json.specs.LineEnds.{IsLastEnd}
use Rattle.delivery_json.proofs.line_ends.last_end.Given as goal

abbrev pub invariant-loop-index : goal.invariant-loop-index
invariant-loop-index l = IsLastEnd l.last (take l.index l.bytes)
