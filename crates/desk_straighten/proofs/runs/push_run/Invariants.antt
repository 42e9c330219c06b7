use Rattle.std.proofs.Common.{◌≡◌, ◌++◌, drop, map}
use Rattle.window.specs.Drain.{contents_of}
use Rattle.window.specs.Between.{asks_between}
use Rattle.deliveries.specs.StraightList.{sent}
use Rattle.desk_straighten.proofs.runs.push_run.Given as goal

abbrev pub invariant-loop-entry : goal.invariant-loop-entry
invariant-loop-entry l = record {
  straightened : l.straightened.items ++ map (sent l.panel) (asks_between l.next (contents_of (drop l.entry-index l.run)) l.end)
      ≡ l.initial.straightened.items ++ map (sent l.panel) (asks_between l.initial.next (contents_of l.run) l.end);
}
