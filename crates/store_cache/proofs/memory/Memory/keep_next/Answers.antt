use Rattle.std.proofs.Common.{ap}
use Rattle.std.specs.HashMap.{get}
use Rattle.std.specs.Map.{lookup}
use Rattle.std.specs.Str.{bytes_eq}
use Rattle.store.specs.Asked.Asked.{NextOf}
use Rattle.store_cache.specs.Known.{Has}
use Rattle.store_cache.proofs.KnownLemmas.{known_more, known_same}
use Rattle.store_cache.proofs.memory.Memory.keep_next.Goals as goal

pub returns-in_err-insert : goal.returns-in_err-insert
returns-in_err-insert c = λ tables rows recalls is stands. record {
  nexts = known_same (Has tables.next) (λ panel. rows (NextOf panel))
      (get bytes_eq c.args.self.now.nexts) (get bytes_eq c.insert.new.self)
      (λ q. ap (λ l. lookup (bytes_eq q) l) c.in_err-insert.ensures.err) recalls.nexts;
  free = recalls.free;
  arrays = recalls.arrays;
  shown = recalls.shown;
  entries = recalls.entries;
  last_tick = recalls.last_tick;
}

pub returns : goal.returns
returns c = λ tables rows recalls is stands. record {
  nexts = known_more (Has tables.next) (λ panel. rows (NextOf panel))
      (get bytes_eq c.args.self.now.nexts) (get bytes_eq c.insert.new.self) c.args.panel.now c.args.next
      c.in_ok-insert.ensures.updates.0 is stands recalls.nexts;
  free = recalls.free;
  arrays = recalls.arrays;
  shown = recalls.shown;
  entries = recalls.entries;
  last_tick = recalls.last_tick;
}
