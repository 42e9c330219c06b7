use Rattle.std.proofs.Common.{◌∙◌, ◌++◌, [], ◌∷◌, ap, sym, string_bytes, take, arith}
use Rattle.std.proofs.lemmas.List.{flat_map_more, take_more}
use Rattle.std.specs.List.{flat_map}
use Rattle.building_hints.specs.HintLines.{shared_hint}
use Rattle.building_hints.proofs.shared_places.push_points.Goals as goal

pub loop-point-preserved : goal.loop-point-preserved
loop-point-preserved c =
    let hint = shared_hint c.args.earlier.now c.args.later.now in
    let items = c.as_slice-point-items.result.now in
    c.in_ok-push_point.ensures
    ∙ ap (λ text. text ++ hint c.point-item.result) c.loop-point.invariant
    ∙ flat_map_more hint (string_bytes c.args.text.now) (take c.loop-point.point-index items) c.point-item.result
    ∙ ap (λ points. string_bytes c.args.text.now ++ flat_map hint points)
    (ap (λ point. take c.loop-point.point-index items ++ point ∷ []) c.point-item.is
    ∙ sym (take_more items c.loop-point.point-index c.point-item.result (omega (arith, c.loop-point-test.true))))
