use Rattle.window.proofs.FrontLemmas.{front-take}
use Rattle.window.proofs.laws.front_never_falls.Goals as goal

pub returns : goal.returns
returns c = front-take
