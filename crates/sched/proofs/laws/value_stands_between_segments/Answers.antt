use Rattle.sched.proofs.LawLemmas.{stands_between}
use Rattle.sched.proofs.laws.value_stands_between_segments.Goals as goal

pub returns : goal.returns
returns c = stands_between
