use Rattle.cli_record.proofs.AgreeLemmas.{none-where-agree}
use Rattle.cli_record.proofs.laws.no_difference_where_tables_agree.Goals as goal

pub returns : goal.returns
returns c = none-where-agree
