use Rattle.window.proofs.FrontLemmas.{take-refused}
use Rattle.window.proofs.laws.refused_changes_nothing.Goals as goal

pub returns : goal.returns
returns c = take-refused
