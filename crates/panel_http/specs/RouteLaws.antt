-- The table has each of the eleven routes, and a route has its one method.
use Rattle.std.specs.Prelude.{◌≡◌, Some, None, codes}
use Rattle.panel_http.specs.Routes.{Commands, Imports, Metrics, Panel, Point, Points, Record, Report, Skip, Tick, Why, route_of}

pub record EachRouteIsFound : Type 0 where
  pub commands : route_of (codes "POST") (codes "/panels/P1/commands") ≡ Some (Commands (Some (codes "P1")))
  pub skip : route_of (codes "POST") (codes "/panels/P1/skip") ≡ Some (Skip (Some (codes "P1")))
  pub tick : route_of (codes "POST") (codes "/tick") ≡ Some Tick
  pub imports : route_of (codes "POST") (codes "/imports") ≡ Some Imports
  pub point : route_of (codes "GET") (codes "/points/R101-SET") ≡ Some (Point (Some (codes "R101-SET")))
  pub report : route_of (codes "GET") (codes "/reports/2025-06-02") ≡ Some (Report (Some (codes "2025-06-02")))
  pub points : route_of (codes "GET") (codes "/points") ≡ Some Points
  pub why : route_of (codes "GET") (codes "/points/R101-SET/why") ≡ Some (Why (Some (codes "R101-SET")))
  pub panel : route_of (codes "GET") (codes "/panels/P1") ≡ Some (Panel (Some (codes "P1")))
  pub «record» : route_of (codes "GET") (codes "/record") ≡ Some Record
  pub metrics : route_of (codes "GET") (codes "/metrics") ≡ Some Metrics
  pub other_method : route_of (codes "GET") (codes "/tick") ≡ None
  pub other_target : route_of (codes "POST") (codes "/panels/P1") ≡ None
