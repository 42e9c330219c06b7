use Rattle.sched.proofs.ValueLemmas.{list_value-latest}
use Rattle.sched.proofs.laws.list_value_is_the_latest.Goals as goal

pub returns : goal.returns
returns c = list_value-latest
