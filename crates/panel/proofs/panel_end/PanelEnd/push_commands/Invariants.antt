use Rattle.std.proofs.Common.{◌≡◌, ◌++◌, map, take}
use Rattle.std.specs.List.{filter}
use Rattle.panel.specs.Due.{command_of, is_kept}
use Rattle.panel.proofs.panel_end.PanelEnd.push_commands.Given as goal

abbrev pub invariant-loop-entry : goal.invariant-loop-entry
invariant-loop-entry l =
    l.named.items ≡ l.initial.named.items
    ++ map (command_of l.self.name) (filter (is_kept l.self.kept_below) (take l.entry-index l.self.in_flight.items))
