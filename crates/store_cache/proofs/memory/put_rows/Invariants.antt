use Rattle.std.proofs.Common.{Bool, false, take}
use Rattle.std.specs.HashMap.{get}
use Rattle.std.specs.Str.{bytes_eq}
use Rattle.points.specs.Run.{Rows}
use Rattle.points.specs.Texts.{Text}
use Rattle.store.specs.Asked.{Asked}
use Rattle.store.specs.Change.{with_each, with_row}
use Rattle.store_cache.specs.Free.{AreFreeIn}
use Rattle.store_cache.specs.Known.{Knows}
use Rattle.store_cache.proofs.memory.put_rows.Given as goal

abbrev pub invariant-loop-item : goal.invariant-loop-item
invariant-loop-item l =
    (rows : Text → Rows) (stuck : Asked → Bool) → Knows (get bytes_eq l.fn.known) (AreFreeIn rows stuck) (λ panel. false)
    → Knows (get bytes_eq l.known) (AreFreeIn (with_each with_row (take l.item-index l.items) rows) stuck) (λ panel. false)
