use Rattle.std.proofs.Common.{Bool, take}
use Rattle.std.specs.HashMap.{get}
use Rattle.std.specs.Str.{bytes_eq}
use Rattle.store.specs.Change.{with_each, with_imported}
use Rattle.points.specs.Texts.{Text}
use Rattle.store_cache.specs.Known.{Knows}
use Rattle.store_cache.specs.Recalled.{AreImported}
use Rattle.store_cache.proofs.memory.forget_imported.Given as goal

abbrev pub invariant-loop-item : goal.invariant-loop-item
invariant-loop-item l =
    (table : Text → Text → Bool) (stuck : Text → Bool) → Knows (get bytes_eq l.fn.known) (AreImported table) stuck
    → Knows (get bytes_eq l.known) (AreImported (with_each with_imported (take l.item-index l.items) table)) stuck
