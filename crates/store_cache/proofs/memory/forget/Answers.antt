use Rattle.std.proofs.Common.{◌&&◌, ◌||◌, map, sym, subst}
use Rattle.std.specs.Bool.{IsTrue}
use Rattle.std.specs.HashMap.{get}
use Rattle.std.specs.Str.{bytes_eq}
use Rattle.dates.specs.Entry.{spelling}
use Rattle.store.specs.Change.{with_imported}
use Rattle.store.specs.Listed.{AreTexts}
use Rattle.store_cache.specs.Recalled.{AreImported}
use Rattle.store_cache.proofs.KnownLemmas.{known_without}
use Rattle.store_cache.proofs.memory.forget.Goals as goal

pub returns : goal.returns
returns c = λ table stuck knows.
    let item = c.args.item.now in
    known_without (AreImported table) stuck (AreImported (with_imported item table)) (get bytes_eq c.args.known.now)
    (get bytes_eq c.remove.new.self) item.calendar c.remove.ensures.updates.0
    (λ q entries apart are. subst (λ b. AreTexts (λ text. IsTrue ((b && bytes_eq (spelling item.entry) text) || table q text))
    (map spelling entries)) (sym apart) are)
    knows
