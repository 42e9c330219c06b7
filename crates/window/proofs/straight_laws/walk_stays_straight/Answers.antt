use Rattle.window.proofs.WalkLemmas.{walk_stays_straight}
use Rattle.window.proofs.straight_laws.walk_stays_straight.Goals as goal

pub returns : goal.returns
returns c = walk_stays_straight
