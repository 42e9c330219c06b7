use Rattle.std.proofs.Common.{◌≡◌, ◌∙◌, ◌++◌, ◌-◌, ap, arith}
use Rattle.std.specs.FinMap.{get}
use Rattle.std.specs.List.{flat_map, range_with_len}
use Rattle.desk_adopt.specs.Findings.{of_place}
use Rattle.desk_adopt.proofs.PlaceFindings.{part-more}
use Rattle.desk_adopt.proofs.place_findings.add_places.Goals as goal

pub loop-priority-preserved : goal.loop-priority-preserved
loop-priority-preserved c =
    part-more (λ priority. of_place c.args.building.now c.args.point.now priority (get c.args.places.now priority))
    c.args.findings.now.items c.loop-priority.findings.items c.add_place.new.findings.items c.loop-priority.priority
    (omega (arith, c.loop-priority.auto.priority)) c.loop-priority.invariant
    (c.in_ok-add_place.ensures
    ∙ ap (λ value. c.loop-priority.findings.items
    ++ of_place c.args.building.now c.args.point.now c.loop-priority.priority value) c.value_at.ensures.value)

pub returns : goal.returns
returns c =
    let last : c.loop-priority.priority ≡ 17 =
    omega (arith, c.loop-priority.auto.priority, c.loop-priority.auto.priority-end, c.loop-priority-test.false) in
    c.loop-priority.invariant ∙ ap (λ n. c.args.findings.now.items ++ flat_map (λ priority. of_place c.args.building.now c.args.point.now
    priority (get c.args.places.now priority)) (range_with_len 1 (n - 1))) last
