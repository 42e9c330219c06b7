use Rattle.desk_views.proofs.record_views.record_view.Goals as goal

pub returns : goal.returns
returns c = rw c.in_ok-last.ensures at c.format.ensures.ok
