use Rattle.store_memory.specs.Held.{stands_calendar}
use Rattle.store_memory.proofs.TextLemmas.{AreTexts-names}
use Rattle.store_memory.proofs.calendars.Calendars.names.Goals as goal

pub returns : goal.returns
returns c =
    AreTexts-names stands_calendar c.loop-name.names.items c.loop-name.name-iterator c.args.self.now.tables.entries c.loop-name.invariant
    c.in-None.ensures.steps.0
    c.into_iter-name-iterator.ensures.into_iter_gives.5
