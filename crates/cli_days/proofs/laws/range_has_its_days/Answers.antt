use Rattle.cli_days.proofs.DaysLemmas.{range-has}
use Rattle.cli_days.proofs.laws.range_has_its_days.Goals as goal

pub returns : goal.returns
returns c = range-has
