use Rattle.std.proofs.Common.{take}
use Rattle.std.specs.List.{flat_map}
use Rattle.std.specs.Io.KnownBytes.{Appends}
use Rattle.delivery_json.specs.DeliveryText.{delivery_line}
use Rattle.desk_cli.proofs.straighten_run.print_deliveries.Given as goal

-- what was printed, with the deliveries so far
abbrev pub invariant-loop-delivery : goal.invariant-loop-delivery
invariant-loop-delivery g l = Appends (g.W.Write.contents l.initial.out) (g.W.Write.contents l.out)
    (flat_map (delivery_line l.building) (take l.delivery-index l.deliveries))
