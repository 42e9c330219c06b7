use Rattle.std.proofs.Common.{map, string_bytes, take}
use Rattle.desk_views.specs.Views.{change_view}
use Rattle.desk_views.proofs.DividedLemmas.{Stands}
use Rattle.desk_views.proofs.change_views.changes_view.Given as goal

-- those of the changes so far
abbrev pub invariant-loop-change : goal.invariant-loop-change
invariant-loop-change l =
    Stands (map (change_view l.building) (take l.change-index l.changes)) (string_bytes l.text) l.comma
