use Rattle.desk_views.specs.Views.{change_view}
use Rattle.desk_views.proofs.DividedLemmas.{Stands-item}
use Rattle.desk_views.proofs.change_views.changes_view.Goals as goal

pub loop-change-preserved : goal.loop-change-preserved
loop-change-preserved c =
    Stands-item (change_view c.args.building.now) c.args.changes.now c.loop-change.change-index c.change-item.result _ _ _ _
    c.loop-change-test.true c.change-item.is c.loop-change.invariant c.in_ok-push_str.ensures.bytes
    c.in_ok-push_change.ensures
