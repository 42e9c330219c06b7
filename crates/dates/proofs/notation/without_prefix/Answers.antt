-- `strip_prefix` takes the mark off where the text begins with it.
use Rattle.dates.proofs.CutLemmas.{without_prefix-strip}
use Rattle.dates.proofs.notation.without_prefix.Goals as goal

pub returns : goal.returns
returns c = without_prefix-strip _ _ c.strip_prefix.result c.strip_prefix.ensures.cases
