use Rattle.store_cache.proofs.RememberLemmas.{remembers_nothing}
use Rattle.store_cache.proofs.remembered.Remembered.open.Goals as goal

pub invariant_of-result : goal.invariant_of-result
invariant_of-result g c =
    remembers_nothing (g.S.Store.standing c.args.below) (g.S.Store.standing c.last_tick.new.self) c.new.result c.in-Ok.ensures.reads
    c.new.ensures
