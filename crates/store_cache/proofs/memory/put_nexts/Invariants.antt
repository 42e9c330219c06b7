use Rattle.std.proofs.Common.{ℕ, Bool, take}
use Rattle.std.specs.HashMap.{get}
use Rattle.std.specs.Str.{bytes_eq}
use Rattle.store.specs.Change.{with_each, with_next}
use Rattle.points.specs.Texts.{Text}
use Rattle.store_cache.specs.Known.{Has, Knows}
use Rattle.store_cache.proofs.memory.put_nexts.Given as goal

abbrev pub invariant-loop-item : goal.invariant-loop-item
invariant-loop-item l =
    (table : Text → ℕ) (stuck : Text → Bool) → Knows (get bytes_eq l.fn.known) (Has table) stuck
    → Knows (get bytes_eq l.known) (Has (with_each with_next (take l.item-index l.items) table)) stuck
