use Rattle.std.proofs.Common.{◌∙◌, ◌++◌, ◌∷◌, []}
use Rattle.store_memory.specs.Memory.{standing_of}
use Rattle.desk_overrides.specs.Overrides.{looks}
use Rattle.desk_overrides.proofs.WatchingLemmas.{last-held, watched-more}
use Rattle.desk_overrides.proofs.watching.watched_on.Goals as goal

pub returns-clause-watched : goal.returns-clause-watched
returns-clause-watched c = λ E ds before held watched.
    let b = c.args.building.now in
    let after = c.in_ok-follow.ensures.holds (E ++ ds) before in
    watched-more b E ds c.args.delivery.now c.follow.new.self c.in_ok-last.last c.args.watches.items c.in_ok-looked_at_all.field-0.items
    watched (c.in_ok-follow.ensures.held E ds before held)
    (c.in_ok-last.ensures.value tt ∙ last-held b E ds c.args.delivery.now (standing_of c.follow.new.store) after)
    c.in_ok-looked_at_all.ensures.points (c.in_ok-looked_at_all.ensures.known (looks b E [] ds) watched.known)
