use Rattle.window.proofs.BetweenLemmas.{straightened-asks_between}
use Rattle.window.proofs.FrontLemmas.{front-take}
use Rattle.window.specs.Taken.{take}
use Rattle.window.proofs.straight_laws.straightened_by_contents.Goals as goal

pub returns : goal.returns
returns c = λ before ask. straightened-asks_between before (take before ask) (front-take before ask)
