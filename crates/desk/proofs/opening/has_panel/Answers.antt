use Rattle.std.proofs.Common.{◌∙◌}
use Rattle.desk.proofs.OpeningLemmas.{found-any}
use Rattle.desk.proofs.opening.has_panel.Goals as goal

pub returns : goal.returns
returns c = c.is_some.ensures ∙ found-any c.find_panel.result _ c.args.building.now.panels c.find_panel.ensures
