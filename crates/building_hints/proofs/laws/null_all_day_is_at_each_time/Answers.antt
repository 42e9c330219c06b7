use Rattle.building_hints.proofs.NullListLemmas.{null_at_each_time}
use Rattle.building_hints.proofs.laws.null_all_day_is_at_each_time.Goals as goal

pub returns : goal.returns
returns c = null_at_each_time
