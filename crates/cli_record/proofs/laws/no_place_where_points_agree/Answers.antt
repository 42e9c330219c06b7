use Rattle.cli_record.proofs.AgreeLemmas.{no-place}
use Rattle.cli_record.proofs.laws.no_place_where_points_agree.Goals as goal

pub returns : goal.returns
returns c = no-place
