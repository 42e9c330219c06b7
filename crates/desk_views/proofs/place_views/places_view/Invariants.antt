use Rattle.std.proofs.Common.{string_bytes, take}
use Rattle.std.specs.List.{filter_map}
use Rattle.desk_views.specs.Views.{place_view}
use Rattle.desk_views.proofs.DividedLemmas.{Stands}
use Rattle.desk_views.proofs.place_views.places_view.Given as goal

-- those of the places so far
abbrev pub invariant-loop-place : goal.invariant-loop-place
invariant-loop-place l =
    Stands (filter_map (place_view l.building) (take l.place-index l.places)) (string_bytes l.text) l.comma
