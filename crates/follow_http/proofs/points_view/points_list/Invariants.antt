use Rattle.std.proofs.Common.{◌≡◌, ◌⊎◌, List, [], codes, map, string_bytes, take}
use Rattle.deliveries.specs.declared.delivery.Delivery.{Delivery}
use Rattle.desk_views.proofs.DividedLemmas.{Stands}
use Rattle.desk_follow.specs.Followed.{HasFollowed, point_text}
use Rattle.follow_http.proofs.points_view.points_list.Given as goal

-- the points so far are told, and what is held stays
abbrev pub invariant-loop-point : goal.invariant-loop-point
invariant-loop-point l = record {
  stands : (earlier deliveries : List Delivery) → HasFollowed l.building earlier deliveries l.initial.follower
      → Stands (map (point_text l.building earlier deliveries) (take l.point-index l.point-items)) (string_bytes l.text) l.comma;
  comma : (l.comma ≡ []) ⊎ (l.comma ≡ codes ",");
  kept : (earlier deliveries : List Delivery) → HasFollowed l.building earlier deliveries l.initial.follower
      → HasFollowed l.building earlier deliveries l.follower;
}
