use Rattle.std.proofs.Common.{map, take}
use Rattle.cli_check.specs.Renamings.{AreRenamings}
use Rattle.cli_check.proofs.renamings.renamings_in.Given as goal

-- the renamings so far
abbrev pub invariant-loop-text : goal.invariant-loop-text
invariant-loop-text l = AreRenamings l.building (map (λ text. text.now) (take l.text-index l.texts)) l.renamings.items
