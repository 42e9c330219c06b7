use Rattle.window.proofs.LawLemmas.{SkipsTo-take}
use Rattle.window.proofs.laws.skip_applies_parked_and_gives_up_missing.Goals as goal

pub returns : goal.returns
returns c = SkipsTo-take
