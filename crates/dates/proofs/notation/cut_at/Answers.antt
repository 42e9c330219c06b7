-- `split_once` cuts where the mark first stands.
use Rattle.dates.proofs.CutLemmas.{cut_at-split}
use Rattle.dates.proofs.notation.cut_at.Goals as goal

pub returns : goal.returns
returns c = cut_at-split _ _ c.split_once.result c.requires c.split_once.ensures.cases
