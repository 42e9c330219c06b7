use Rattle.std.proofs.Common.{◌≡◌, filter, take}
use Rattle.desk_adopt.specs.Sections.{counts}
use Rattle.desk_adopt.proofs.sections.counting.Given as goal

-- those so far
abbrev pub invariant-loop-renaming : goal.invariant-loop-renaming
invariant-loop-renaming l = l.counting.items ≡ filter (counts l.has l.stand) (take l.renaming-index l.renamings)
