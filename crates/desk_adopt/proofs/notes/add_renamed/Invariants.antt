use Rattle.std.proofs.Common.{◌≡◌, ◌++◌, take}
use Rattle.std.specs.List.{flat_map}
use Rattle.desk_adopt.specs.Notes.{name_now, unless_same}
use Rattle.desk_adopt.proofs.notes.add_renamed.Given as goal

-- the names so far
abbrev pub invariant-loop-old : goal.invariant-loop-old
invariant-loop-old l = l.renamed.items
    ≡ l.initial.renamed.items ++ flat_map (λ old. unless_same l.kind old (name_now l.section old)) (take l.old-index l.section.stand.items)
