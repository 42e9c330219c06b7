use Rattle.std.proofs.Common.{take}
use Rattle.store_sql.proofs.EntryLemmas.{AreSpelled}
use Rattle.store_sql.proofs.entries.parsed_entries.Given as goal

-- the entries that the rows so far spell
abbrev pub invariant-loop-row : goal.invariant-loop-row
invariant-loop-row l = AreSpelled (take l.row-index l.row-items) l.entries.items
