use Rattle.std.proofs.Common.{◌≡◌, map, take}
use Rattle.store_memory.proofs.spelled_entry.spell.Given as goal

abbrev pub invariant-loop-item : goal.invariant-loop-item
invariant-loop-item l = map (λ x. x.item) l.spelled.items ≡ take l.item-index l.items
