use Rattle.sched.proofs.HeardLemmas.{index-is, source-has_value}
use Rattle.sched.proofs.source_laws.source_has_the_value.Goals as goal

pub returns-clause-index : goal.returns-clause-index
returns-clause-index c = index-is

pub returns-clause-value : goal.returns-clause-value
returns-clause-value c = source-has_value
