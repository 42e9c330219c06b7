use Rattle.std.proofs.Common.{is_some}
use Rattle.store_memory.proofs.NameLemmas.{AreTexts-sorted}
use Rattle.store_memory.proofs.shown_values.ShownValues.names.Goals as goal

pub returns : goal.returns
returns c =
    AreTexts-sorted is_some c.loop-name.names.items c.sort_unstable.new.self.items c.loop-name.name-iterator
    c.args.self.now.values.entries
    c.loop-name.invariant c.in-None.ensures.steps.0 c.into_iter-name-iterator.ensures.into_iter_gives.4 c.sort_unstable.ensures.permutation
    c.sort_unstable.ensures.sorted
