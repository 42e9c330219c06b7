-- What one who has followed the deliveries of a record says to a request.
use Rattle.std.specs.Prelude.{◌≡◌, ◌<◌, ◌^◌, ℕ, List, ◌++◌, codes, length, map, Option, Some, None}
use Rattle.building.specs.Building.{Building}
use Rattle.deliveries.specs.declared.delivery.Delivery.{Delivery}
use Rattle.deliveries.specs.Events.{machine}
use Rattle.desk_follow.specs.Followed.{point_text}
use Rattle.desk_views.specs.Views.{divided, record_view, why_view}
use Rattle.desk_why.specs.Authors.{places_of}
use Rattle.desk_why.specs.NextChanges.{next_changes}
use Rattle.panel_http.specs.Answers.{IsSaid}
use Rattle.panel_http.specs.Response.{Said, json}
use Rattle.panel_http.specs.Responses.{no_point_said, refusal_said}
use Rattle.panel_http.specs.declared.refusal.Refusal.TheVariants.{NoRoute}
use Rattle.panel_http.specs.declared.request.Request.{Request}
use Rattle.panel_http.specs.declared.request.Request.TheVariants as asked
use Rattle.panel_http.specs.declared.view.View.{View}
use Rattle.panel_http.specs.declared.view.View.TheVariants as view
use Rattle.points.specs.PriorityArray.{present_of}
use Rattle.points.specs.Rights.{point_named}
use Rattle.points.specs.Texts.{Text}
use Rattle.points.specs.declared.point.Point.{Point}

abbrev pub points_view : Building → (earlier deliveries : List Delivery) → Text
points_view building earlier deliveries = codes "{\"answer\":\"points\",\"points\":["
    ++ (divided (map (point_text building earlier deliveries) building.points) ++ codes "]}")

abbrev pub why_said : Building → (earlier deliveries : List Delivery) → Option Point → Said
why_said building earlier deliveries None = no_point_said
why_said building earlier deliveries (Some point) =
    let present = present_of ((machine building (earlier ++ deliveries)).places point.name) point.relinquish_default in
    json 200 (why_view building point present (places_of building earlier deliveries point.name)
    (next_changes building (earlier ++ deliveries) point.name))

abbrev pub IsWhySaid : Building → (earlier deliveries : List Delivery) → Option Text → Said → Type 0
IsWhySaid building earlier deliveries None said = said ≡ no_point_said
IsWhySaid building earlier deliveries (Some name) said =
    said ≡ why_said building earlier deliveries (point_named building.points name)

-- to who asks for what is held, as long as the deliveries can be counted
abbrev pub IsViewSaid : Building → (earlier deliveries : List Delivery) → View → Said → Type 0
IsViewSaid building earlier deliveries view.Points said = said ≡ json 200 (points_view building earlier deliveries)
IsViewSaid building earlier deliveries (view.Why name) said = IsWhySaid building earlier deliveries name said
IsViewSaid building earlier deliveries (view.Panel name) said = said ≡ refusal_said NoRoute
IsViewSaid building earlier deliveries view.Record said = length deliveries < 2 ^ 64
    → said ≡ json 200 (record_view (length deliveries) (machine building (earlier ++ deliveries)).last_tick)
IsViewSaid building earlier deliveries view.Metrics said = said ≡ refusal_said NoRoute

-- points and reports as the desk says them; nothing is delivered
abbrev pub IsSeen : Building → (earlier deliveries : List Delivery) → Request → Said → Type 0
IsSeen building earlier deliveries (asked.Refused refusal) said = said ≡ refusal_said refusal
IsSeen building earlier deliveries (asked.Delivery delivery) said = said ≡ refusal_said NoRoute
IsSeen building earlier deliveries asked.NoPanel said = said ≡ refusal_said NoRoute
IsSeen building earlier deliveries (asked.RefusedImport fault) said = said ≡ refusal_said NoRoute
IsSeen building earlier deliveries (asked.Point name) said = IsSaid building (earlier ++ deliveries) (asked.Point name) said
IsSeen building earlier deliveries (asked.Report day) said = IsSaid building (earlier ++ deliveries) (asked.Report day) said
IsSeen building earlier deliveries (asked.View view) said = IsViewSaid building earlier deliveries view said
