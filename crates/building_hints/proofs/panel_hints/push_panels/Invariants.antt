use Rattle.std.proofs.Common.{◌≡◌, ◌++◌, take, string_bytes}
use Rattle.std.specs.List.{flat_map}
use Rattle.building_hints.specs.HintLines.{panel_hints}
use Rattle.building_hints.proofs.panel_hints.push_panels.Given as goal

-- the hints so far
abbrev pub invariant-loop-panel : goal.invariant-loop-panel
invariant-loop-panel l = string_bytes l.text ≡ string_bytes l.initial.text ++ flat_map panel_hints (take l.panel-index l.panels)
