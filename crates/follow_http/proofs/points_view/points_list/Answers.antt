use Rattle.std.proofs.Common.{◌≡◌, ◌∙◌, List, Some, ap, arith, inl, inr, map, refl, rules, slice_get, subst, sym, take}
use Rattle.std.proofs.lemmas.List.{take_all}
use Rattle.std.proofs.lemmas.Option.{slice_get-get_or}
use Rattle.points.specs.declared.point.Point.{Point}
use Rattle.desk_views.specs.Views.{divided}
use Rattle.desk_views.proofs.DividedLemmas.{Stands-item}
use Rattle.desk_follow.specs.Followed.{point_text}
use Rattle.follow_http.proofs.points_view.points_list.Goals as goal

pub loop-point-init : goal.loop-point-init
loop-point-init c = record {
  stands = λ earlier deliveries followed. record { whole = search rules; behind = search rules };
  comma = inl refl;
  kept = λ earlier deliveries followed. followed;
}

pub loop-point-preserved : goal.loop-point-preserved
loop-point-preserved c =
    let points = c.points-point-items.result.now in
    let at = c.loop-point.point-index in
    let item = c.point-item.result in
    let here : slice_get c.args.building.now.points at ≡ Some item =
    subst (λ (ps : List Point). slice_get ps at ≡ Some item) c.points-point-items.ensures
    (slice_get-get_or points at item c.loop-point-test.true ∙ ap Some (sym c.point-item.is)) in
    record {
      stands = λ earlier deliveries followed.
          Stands-item (point_text c.args.building.now earlier deliveries) points at item _ _ _ _ c.loop-point-test.true c.point-item.is
          (c.loop-point.invariant.stands earlier deliveries followed) c.in_ok-push_str.ensures.bytes
          (c.in_ok-push_point.ensures.writes earlier deliveries at (c.loop-point.invariant.kept earlier deliveries followed) here);
      comma = inr refl;
      kept = λ earlier deliveries followed.
          c.in_ok-push_point.ensures.kept earlier deliveries (c.loop-point.invariant.kept earlier deliveries followed);
    }

pub returns-clause-tells : goal.returns-clause-tells
returns-clause-tells c = λ earlier deliveries followed.
    let points = c.points-point-items.result.now in
    let at = c.loop-point.point-index in
    (c.loop-point.invariant.stands earlier deliveries followed).whole
    ∙ ap (λ (ps : List Point). divided (map (point_text c.args.building.now earlier deliveries) ps))
    (take_all at points (omega (arith, c.loop-point-test.false)) ∙ c.points-point-items.ensures)
