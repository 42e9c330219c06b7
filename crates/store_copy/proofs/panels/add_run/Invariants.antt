use Rattle.std.proofs.Common.{◌≡◌, ◌++◌, filter, map, take}
use Rattle.store_copy.specs.Remembered.{is_remembered}
use Rattle.store_copy.specs.Named.{row_for}
use Rattle.store_copy.proofs.panels.add_run.Given as goal

-- the remembered rows so far
abbrev pub invariant-loop-numbered : goal.invariant-loop-numbered
invariant-loop-numbered l = l.rows.items
    ≡ l.initial.rows.items ++ map (row_for l.panel) (filter (λ it. is_remembered l.next it.number) (take l.numbered-index l.run))
