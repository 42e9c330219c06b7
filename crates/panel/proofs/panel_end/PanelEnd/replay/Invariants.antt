use Rattle.std.proofs.Common.{◌≡◌, take}
use Rattle.panel.specs.Ran.{Ran}
use Rattle.panel.specs.Replayed.{replayed}
use Rattle.panel.specs.Run.{Run}
use Rattle.panel.proofs.panel_end.PanelEnd.replay.Given as goal

abbrev pub invariant-loop-made : goal.invariant-loop-made
invariant-loop-made l = record {
  ran : (run : Run) → Ran run l.initial.self → Ran (replayed run (take l.made-index l.moves)) l.self;
  name : l.self.name ≡ l.initial.self.name;
}
