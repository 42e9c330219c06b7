use Rattle.desk_views.proofs.PlaceLemmas.{Stands-empty, Stands-held}
use Rattle.desk_views.proofs.place_views.places_view.Goals as goal

pub loop-place-preserved-in_default : goal.loop-place-preserved-in_default
loop-place-preserved-in_default c =
    Stands-empty c.args.building.now c.args.places.now c.loop-place.place-index c.place-item.result _ _
    c.loop-place-test.true c.place-item.is c.in_default.is c.loop-place.invariant

pub loop-place-preserved : goal.loop-place-preserved
loop-place-preserved c =
    Stands-held c.args.building.now c.args.places.now c.loop-place.place-index c.place-item.result c.in-Some.held _ _ _ _
    c.loop-place-test.true c.place-item.is c.in-Some.is c.loop-place.invariant c.in_ok-push_str.ensures.bytes
    c.in_ok-push_held.ensures
