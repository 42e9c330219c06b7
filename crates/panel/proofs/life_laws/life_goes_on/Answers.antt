use Rattle.panel.proofs.RestLemmas.{sent-stays}
use Rattle.panel.proofs.life_laws.life_goes_on.Goals as goal

pub returns : goal.returns
returns c = sent-stays
