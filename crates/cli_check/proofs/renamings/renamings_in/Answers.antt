use Rattle.std.proofs.Common.{arith}
use Rattle.cli_check.proofs.RenamingLemmas.{renamings_step}
use Rattle.cli_check.proofs.renamings.renamings_in.Goals as goal

pub loop-text-preserved : goal.loop-text-preserved
loop-text-preserved c =
    let joined = c.in_ok-add_renaming.ensures in
    renamings_step c.args.building.now c.args.texts.now c.loop-text.text-index _ c.loop-text.renamings.items
    c.add_renaming.new.renamings.items joined.0 (omega (arith, c.loop-text-test.true)) c.loop-text.invariant joined.1 joined.2 joined.3
