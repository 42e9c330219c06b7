use Rattle.std.proofs.Common.{◌≡◌, ◌++◌, take}
use Rattle.std.specs.List.{flat_map}
use Rattle.desk_adopt.specs.Notes.{left_schedule}
use Rattle.desk_adopt.proofs.notes.add_left_schedules.Given as goal

-- what stays behind so far
abbrev pub invariant-loop-old : goal.invariant-loop-old
invariant-loop-old l = l.left.items ≡ l.initial.left.items ++ flat_map (left_schedule l.section) (take l.old-index l.section.stand.items)
