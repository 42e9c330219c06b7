use Rattle.std.proofs.Common.{◌≡◌, take}
use Rattle.std.specs.List.{flat_map}
use Rattle.desk_adopt.specs.Notes.{unless_counting}
use Rattle.desk_adopt.proofs.notes.unused_of.Given as goal

-- those so far
abbrev pub invariant-loop-renaming : goal.invariant-loop-renaming
invariant-loop-renaming l = l.unused.items ≡ flat_map (unless_counting l.sections) (take l.renaming-index l.renamings)
