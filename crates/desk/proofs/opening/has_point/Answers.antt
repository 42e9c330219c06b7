use Rattle.std.proofs.Common.{◌∙◌}
use Rattle.desk.proofs.OpeningLemmas.{found-any}
use Rattle.desk.proofs.opening.has_point.Goals as goal

pub returns : goal.returns
returns c = c.is_some.ensures ∙ found-any c.find_point.result _ c.args.building.now.points c.find_point.ensures
