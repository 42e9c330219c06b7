use Rattle.std.proofs.Common.{◌≡◌, length, take}
use Rattle.desk_record.proofs.same_delivery.are_same_rows.Given as goal

abbrev pub invariant-loop-index : goal.invariant-loop-index
invariant-loop-index l = (length l.rows ≡ length l.others) × (take l.index l.rows ≡ take l.index l.others)
