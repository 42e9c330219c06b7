use Rattle.std.proofs.Common.{◌≡◌, map, take}
use Rattle.points.specs.declared.panel.Panel.{Panel}
use Rattle.desk_adopt.proofs.sections.panel_names.Given as goal

-- the names so far
abbrev pub invariant-loop-panel : goal.invariant-loop-panel
invariant-loop-panel l = l.names.items ≡ map (λ (it : Panel). it.name) (take l.panel-index l.building.panels)
