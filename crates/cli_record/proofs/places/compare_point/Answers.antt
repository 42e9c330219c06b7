use Rattle.std.proofs.Common.{◌≡◌, ◌∙◌, ◌++◌, ◌-◌, ap, arith, ℤ, Bool, Option}
use Rattle.std.specs.FinMap.{get}
use Rattle.std.specs.List.{flat_map, range_with_len}
use Rattle.points.specs.PriorityArray.{Places}
use Rattle.desk_adopt.proofs.PlaceFindings.{part-more}
use Rattle.cli_record.specs.declared.difference.Difference.TheVariants.{Place}
use Rattle.cli_record.specs.Differences.{of_places, of_value}
use Rattle.cli_record.specs.Unless.{unless}
use Rattle.cli_record.proofs.ComparesLemmas.{compares-as}
use Rattle.cli_record.proofs.places.compare_point.Goals as goal

pub loop-priority-preserved : goal.loop-priority-preserved
loop-priority-preserved g c =
    let point = c.args.point.now.name in
    let n = c.loop-priority.priority in
    let held = c.in_ok-held.held in
    let recorded = c.in_ok-held.recorded in
    let before = c.loop-priority.found.items in
    part-more (λ priority. of_value point priority (get held priority) (get recorded priority))
    c.args.found.now.items before c.add_unless.new.found.items n
    (omega (arith, c.loop-priority.auto.priority)) c.loop-priority.invariant
    (c.in_ok-add_unless.ensures
    ∙ ap (λ (same : Bool). before ++ unless same (Place point n c.value_at-value.result c.value_at-other_value.result))
    c.is_same_value.ensures
    ∙ ap (λ (value : Option ℤ). before ++ of_value point n value c.value_at-other_value.result) c.value_at-value.ensures.value
    ∙ ap (λ (value : Option ℤ). before ++ of_value point n (get held n) value) c.value_at-other_value.ensures.value)

pub returns : goal.returns
returns g c =
    let point = c.args.point.now.name in
    let old = c.args.found.now.items in
    let held = c.in_ok-held.held in
    let recorded = c.in_ok-held.recorded in
    let last : c.loop-priority.priority ≡ 17 =
    omega (arith, c.loop-priority.auto.priority, c.loop-priority.auto.priority-end, c.loop-priority-test.false) in
    compares-as c.in_ok-held.ensures (λ both. c.loop-priority.invariant
    ∙ ap (λ n. old ++ flat_map (λ priority. of_value point priority (get held priority) (get recorded priority)) (range_with_len 1 (n - 1))) last
    ∙ ap (λ (places : Places). old ++ of_places point places recorded) both.0
    ∙ ap (λ (places : Places). old ++ of_places point ((g.S.Store.standing c.args.store.now).content.tables.places point) places) both.1)
