use Rattle.desk_adopt.proofs.SuitLemmas.{suits-adopted}
use Rattle.desk_adopt.proofs.laws.adopted_tables_suit.Goals as goal

pub returns : goal.returns
returns c = suits-adopted
