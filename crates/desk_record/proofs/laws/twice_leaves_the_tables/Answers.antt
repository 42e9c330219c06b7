use Rattle.desk_record.proofs.DeliveredAgain.{tables-twice}
use Rattle.desk_record.proofs.laws.twice_leaves_the_tables.Goals as goal

pub returns : goal.returns
returns c = tables-twice
