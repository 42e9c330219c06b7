use Rattle.std.proofs.Common.{take}
use Rattle.std.specs.List.{All}
use Rattle.dates.specs.Entry.{IsEntry}
use Rattle.store.specs.declared.change.ImportedEntry.{ImportedEntry}
use Rattle.desk_settling.proofs.today.have_ranges.Given as goal

abbrev pub invariant-loop-item : goal.invariant-loop-item
invariant-loop-item l = All (λ (item : ImportedEntry). IsEntry item.entry) (take l.item-index l.items)
