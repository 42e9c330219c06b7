use Rattle.std.proofs.Common.{Bool, take}
use Rattle.std.specs.HashMap.{get}
use Rattle.std.specs.Str.{bytes_eq}
use Rattle.points.specs.PriorityArray.{Places}
use Rattle.store.specs.Change.{with_each, with_place}
use Rattle.points.specs.Texts.{Text}
use Rattle.store_cache.specs.Known.{Has, Knows}
use Rattle.store_cache.proofs.memory.put_places.Given as goal

abbrev pub invariant-loop-item : goal.invariant-loop-item
invariant-loop-item l =
    (table : Text → Places) (stuck : Text → Bool) → Knows (get bytes_eq l.fn.known) (Has table) stuck
    → Knows (get bytes_eq l.known) (Has (with_each with_place (take l.item-index l.items) table)) stuck
