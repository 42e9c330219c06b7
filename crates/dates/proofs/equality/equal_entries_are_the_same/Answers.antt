use Rattle.dates.proofs.EqualityLemmas.{eq-same}
use Rattle.dates.proofs.equality.equal_entries_are_the_same.Goals as goal

pub returns : goal.returns
returns c = eq-same
