use Rattle.std.proofs.Common.{take}
use Rattle.store_sql.specs.Placing.{AreReported}
use Rattle.store_sql.proofs.placing.parsed_array.Given as goal

-- the array has what the rows so far tell
abbrev pub invariant-loop-row : goal.invariant-loop-row
invariant-loop-row l = AreReported (take l.row-index l.row-items) l.array
