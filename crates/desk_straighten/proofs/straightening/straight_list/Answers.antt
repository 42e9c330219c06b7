use Rattle.std.proofs.Common.{◌≡◌, ◌∙◌, ◌+◌, ◌++◌, ◌∷◌, [], List, take, length, sym, ap, subst, arith}
use Rattle.std.specs.List.{flat_map}
use Rattle.std.proofs.lemmas.List.{take_more, take_all}
use Rattle.deliveries.specs.declared.delivery.Delivery.{Delivery}
use Rattle.deliveries.specs.Delivered.{Holds}
use Rattle.store_memory.specs.Memory.{standing_of}
use Rattle.points.specs.declared.panel.Panel.{Panel}
use Rattle.store.specs.Standing.{sound}
use Rattle.deliveries.specs.StraightList.{parked_of, straight_list, straightened_after}
use Rattle.deliveries.proofs.EmptyLemmas.{tables-none}
use Rattle.desk_straighten.proofs.LoopLemmas.{panels-more, straightened-more, taken-more}
use Rattle.deliveries.specs.StraightLaws.{IsStraightOf}
use Rattle.deliveries.proofs.TablesSame.{no-tolerance, same-machine, same-tables}
use Rattle.desk_straighten.proofs.straightening.straight_list.Goals as goal

pub loop-delivery-init : goal.loop-delivery-init
loop-delivery-init c = record {
  holds = c.new-store.ensures.empty ∙ ap sound (tables-none c.args.building.now);
  straightened = c.new-straightened.ensures.items;
}

pub loop-delivery-preserved : goal.loop-delivery-preserved
loop-delivery-preserved c =
    let more =
    taken-more c.args.deliveries.now c.loop-delivery.delivery-index c.delivery-item.result (omega (arith, c.loop-delivery-test.true))
    c.delivery-item.is in
    let so_far = c.loop-delivery.invariant in
    record {
      holds = subst (λ (E : List Delivery). Holds c.args.building.now E (standing_of c.straighten_one.new.store)) (sym more)
          (c.in_ok-straighten_one.ensures.holds _ so_far.holds);
      straightened = straightened-more c.args.building.now _ _ c.delivery-item.result c.loop-delivery.straightened.items
          c.straighten_one.new.straightened.items more so_far.straightened
          (c.in_ok-straighten_one.ensures.straightens _ so_far.holds);
    }

pub loop-panel-preserved : goal.loop-panel-preserved
loop-panel-preserved c =
    let b = c.args.building.now in
    let L = c.args.deliveries.now in
    let ps = c.panels-panel-items.result.now in
    let at = c.loop-panel.panel-index in
    let panel = c.panel-item.result in
    let so_far = c.loop-panel.invariant in
    let here : take (at + 1) ps ≡ take at ps ++ panel ∷ [] =
    take_more ps at panel (omega (arith, c.loop-panel-test.true)) ∙ ap (λ (x : Panel). take at ps ++ x ∷ []) (sym c.panel-item.is) in
    let more = subst (λ (qs : List Panel). take (at + 1) qs ≡ take at qs ++ panel ∷ []) c.panels-panel-items.ensures here in
    record {
      holds = c.in_ok-push_parked.ensures.same ∙ so_far.holds;
      straightened = panels-more b L (take at b.panels) (take (at + 1) b.panels) panel
          (straightened_after b [] L) c.loop-panel.straightened.items
          c.push_parked.new.straightened.items more so_far.straightened (c.in_ok-push_parked.ensures.straightens L so_far.holds);
    }

pub returns-clause-list : goal.returns-clause-list
unfolding straight_list
returns-clause-list c =
    let b = c.args.building.now in
    let L = c.args.deliveries.now in
    let ps = c.panels-panel-items.result.now in
    let at = c.loop-panel.panel-index in
    let whole : take at ps ≡ ps = take_all at ps (omega (arith, c.loop-panel-test.false)) in
    let all = subst (λ (qs : List Panel). take at qs ≡ qs) c.panels-panel-items.ensures whole in
    c.loop-panel.invariant.straightened ∙ ap (λ (qs : List Panel). straightened_after b [] L ++ flat_map (parked_of b L) qs) all

pub returns-clause-laws : goal.returns-clause-laws
returns-clause-laws c = λ schedules panels.
    let b = c.args.building.now in
    let L = c.args.deliveries.now in
    subst (λ (xs : List Delivery). IsStraightOf b L xs) (sym (returns-clause-list c)) (record {
      no_tolerance = no-tolerance b L schedules panels;
      same_machine = same-machine b L schedules panels;
      same_tables = same-tables b L schedules panels;
    })
