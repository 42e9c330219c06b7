use Rattle.std.proofs.Common.{◌≡◌, ◌++◌, drop, map}
use Rattle.window.specs.Drain.{contents_of}
use Rattle.deliveries.specs.StraightList.{sent}
use Rattle.window.specs.Parked.{command_of}
use Rattle.desk_straighten.proofs.parked_commands.push_commands.Given as goal

abbrev pub invariant-loop-entry : goal.invariant-loop-entry
invariant-loop-entry l = record {
  straightened : l.straightened.items ++ map (sent l.panel) (map command_of (contents_of (drop l.entry-index l.run)))
      ≡ l.initial.straightened.items ++ map (sent l.panel) (map command_of (contents_of l.run));
}
