use Rattle.std.proofs.Common.{ap, false, refl}
use Rattle.std.specs.HashMap.{get}
use Rattle.std.specs.Map.{lookup}
use Rattle.std.specs.Str.{bytes_eq}
use Rattle.store_cache.specs.Free.{AreFreeIn}
use Rattle.store_cache.proofs.KnownLemmas.{known_more, known_same}
use Rattle.store_cache.proofs.memory.Memory.keep_free.Goals as goal

pub returns-in_err-insert : goal.returns-in_err-insert
returns-in_err-insert c = λ tables rows recalls are. record {
  nexts = recalls.nexts;
  free = known_same (AreFreeIn tables.row rows) (λ panel. false)
      (get bytes_eq c.args.self.now.free) (get bytes_eq c.insert.new.self)
      (λ q. ap (λ l. lookup (bytes_eq q) l) c.in_err-insert.ensures.err) recalls.free;
  arrays = recalls.arrays;
  shown = recalls.shown;
  entries = recalls.entries;
  last_tick = recalls.last_tick;
}

pub returns : goal.returns
returns c = λ tables rows recalls are. record {
  nexts = recalls.nexts;
  free = known_more (AreFreeIn tables.row rows) (λ panel. false)
      (get bytes_eq c.args.self.now.free) (get bytes_eq c.insert.new.self) c.args.panel.now c.args.free
      c.in_ok-insert.ensures.updates.0 are refl recalls.free;
  arrays = recalls.arrays;
  shown = recalls.shown;
  entries = recalls.entries;
  last_tick = recalls.last_tick;
}
