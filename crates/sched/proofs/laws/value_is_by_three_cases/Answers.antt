use Rattle.sched.proofs.ValueLemmas.{schedule_value-cases}
use Rattle.sched.proofs.laws.value_is_by_three_cases.Goals as goal

pub returns : goal.returns
returns c = schedule_value-cases
