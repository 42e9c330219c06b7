-- What one holds who has followed the deliveries of a record.
use Rattle.std.specs.Prelude.{◌≡◌, ℕ, ◌^◌, ◌<◌, List, ◌++◌, length}
use Rattle.building.specs.Building.{Building}
use Rattle.deliveries.specs.declared.delivery.Delivery.{Delivery}
use Rattle.deliveries.specs.Delivered.{Holds}
use Rattle.deliveries.specs.Events.{machine}
use Rattle.desk_views.specs.Views.{point_view}
use Rattle.desk_why.specs.Authors.{held_of, places_of}
use Rattle.desk_views.specs.Views.{point_view}
use Rattle.desk_why.specs.AuthorsTable.{AreHeld}
use Rattle.desk_why.specs.NextChanges.{next_changes}
use Rattle.desk_why.specs.declared.walking.PointAtEnd.{PointAtEnd}
use Rattle.points.specs.PriorityArray.{present_of}
use Rattle.points.specs.declared.point.Point.{Point}
use Rattle.points.specs.Texts.{Text}
use Rattle.store_memory.specs.Memory.{standing_of}
use Rattle.desk_follow.specs.declared.follower.Follower.{Follower}

-- of a record that begins behind earlier deliveries: the tables after all of them, what put each value in its place, and
-- how many deliveries of the record there are, as far as they can be counted
pub record HasFollowed (building : Building) (earlier deliveries : List Delivery) (follower : Follower) : Type 0 where
  pub holds : Holds building (earlier ++ deliveries) (standing_of follower.store)
  pub authors : AreHeld building earlier deliveries follower.authors
  pub count : length deliveries < 2 ^ 64 → follower.count ≡ length deliveries

-- what a point presents after them, what its places hold and what put it there, and its next changes
pub record IsWhy (building : Building) (earlier deliveries : List Delivery) (point : Point) (now : PointAtEnd) : Type 0 where
  pub present : (now.present, now.priority)
      ≡ present_of ((machine building (earlier ++ deliveries)).places point.name) point.relinquish_default
  pub places : now.places.items ≡ places_of building earlier deliveries point.name
  pub next : now.next.items ≡ next_changes building (earlier ++ deliveries) point.name

-- a point in the list of all: what it presents, and what put that there
abbrev pub point_text : Building → (earlier deliveries : List Delivery) → Point → Text
point_text building earlier deliveries point =
    let present = present_of ((machine building (earlier ++ deliveries)).places point.name) point.relinquish_default in
    point_view building point.name present.0 present.1 (held_of building earlier deliveries point.name present.1)
