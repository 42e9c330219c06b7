use Rattle.std.proofs.Common.{take}
use Rattle.store_sql.specs.Numbered.{AreSaid, HasNumbers}
use Rattle.store_sql.proofs.numbered.by_number.Given as goal

-- what the rows so far say
abbrev pub invariant-loop-row : goal.invariant-loop-row
invariant-loop-row l = record {
  said : AreSaid (take l.row-index l.rows) l.numbered;
  numbers : HasNumbers l.numbered;
}
