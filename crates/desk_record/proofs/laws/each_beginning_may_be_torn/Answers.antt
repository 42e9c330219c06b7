use Rattle.desk_record.proofs.TornLemmas.{each-beginning}
use Rattle.desk_record.proofs.laws.each_beginning_may_be_torn.Goals as goal

pub returns : goal.returns
returns c = each-beginning
