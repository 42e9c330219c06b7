use Rattle.sched.proofs.NextLemmas.{next-is_first}
use Rattle.sched.proofs.source_laws.next_change_is_the_first.Goals as goal

pub returns : goal.returns
returns c = next-is_first
