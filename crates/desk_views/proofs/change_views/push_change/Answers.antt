use Rattle.desk_views.specs.Views.{change_view}
use Rattle.desk_views.proofs.change_views.push_change.Goals as goal

pub returns : goal.returns
unfolding change_view
returns c = rw (c.in_ok-by.ensures, c.in_ok-value.ensures, c.as_str-schedule.ensures.text) at c.write.ensures.bytes
