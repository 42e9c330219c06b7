use Rattle.sched.proofs.LawLemmas.{last_segment}
use Rattle.sched.proofs.laws.last_segment_has_the_value.Goals as goal

pub returns : goal.returns
returns c = last_segment
