use Rattle.std.proofs.Common.{lit<}
use Rattle.dates.proofs.CutLemmas.{cut_at-split}
use Rattle.desk_adopt.proofs.RenamingLemmas.{cut-parts}
use Rattle.desk_adopt.proofs.renaming.cut_at_equals.Goals as goal

pub returns-clause-parts : goal.returns-clause-parts
returns-clause-parts c =
    cut-parts c.args.text.now c.split_once.result (cut_at-split _ _ c.split_once.result (lit< tt) c.split_once.ensures.cases)
