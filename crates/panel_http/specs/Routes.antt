-- The routes of the desk and of its follower, and which of them a request asks.
use Rattle.std.specs.Prelude.{ℕ, List, [], ◌∷◌, Bool, Option, None, Some, Result, Ok, Err, codes}
use Rattle.std.specs.Prelude.{if◌then◌else◌, ltb, option_and_then, option_map}
use Rattle.std.specs.List.{list_all}
use Rattle.std.specs.Str.{bytes_eq}
use Rattle.matchit.specs.Order.{placed}
use Rattle.matchit.specs.Params.{walk}
use Rattle.matchit.specs.Route.{Scan, parse_route}
use Rattle.matchit.specs.Router.{RouteOf, route_from}
use Rattle.matchit.specs.Rows.{RowsOf}
use Rattle.matchit.specs.Seek.{first}
use Rattle.matchit.specs.declared.error.InsertError.{InsertError}
use Rattle.panel_http.specs.declared.route.Route.{Route}
use Rattle.panel_http.specs.declared.route.Route.TheVariants as route
use Rattle.panel_http.specs.declared.routes.Row.{Row}
use Rattle.panel_http.specs.declared.routes.Row.TheVariants as row
use Rattle.points.specs.Texts.{Text}

-- ---- the table

-- the rows that `matchit` keeps for one method
abbrev pub Rows : Type 0
Rows = RowsOf (RouteOf Row)

abbrev pub with_scan : Result Scan InsertError → Row → Rows → Rows
with_scan (Ok scan) what rows = placed (scan.pattern, route_from scan what) rows
with_scan (Err error) what rows = rows

-- one row more, in its place
abbrev pub with_row : Text → Row → Rows → Rows
with_row pattern what rows = with_scan (parse_route pattern) what rows

abbrev pub post_rows : Rows
post_rows =
    with_row (codes "/panels/{panel}/commands") row.Commands
    (with_row (codes "/panels/{panel}/skip") row.Skip
    (with_row (codes "/tick") row.Tick
    (with_row (codes "/imports") row.Imports [])))

abbrev pub get_rows : Rows
get_rows =
    with_row (codes "/points/{point}") row.Point
    (with_row (codes "/reports/{date}") row.Report
    (with_row (codes "/points") row.Points
    (with_row (codes "/points/{point}/why") row.Why
    (with_row (codes "/panels/{panel}") row.Panel
    (with_row (codes "/record") row.Record
    (with_row (codes "/metrics") row.Metrics []))))))

-- those of a method, which is the bytes of its token, with regard to case (RFC 9110)
abbrev pub rows_of : Text → Option Rows
rows_of method =
    if bytes_eq method (codes "POST") then Some post_rows
    else (if bytes_eq method (codes "GET") then Some get_rows else None)

-- ---- what a request asks

-- a route with the text of its parameter, as contracts see it
pub data RouteValue : Type 0 where
  Commands : (panel : Option Text) → RouteValue
  Skip : (panel : Option Text) → RouteValue
  Tick : RouteValue
  Imports : RouteValue
  Point : (point : Option Text) → RouteValue
  Report : (date : Option Text) → RouteValue
  Points : RouteValue
  Why : (point : Option Text) → RouteValue
  Panel : (panel : Option Text) → RouteValue
  Record : RouteValue
  Metrics : RouteValue

abbrev pub route_value : Route → RouteValue
route_value (route.Commands panel) = Commands (option_map (λ s. s.now) panel)
route_value (route.Skip panel) = Skip (option_map (λ s. s.now) panel)
route_value route.Tick = Tick
route_value route.Imports = Imports
route_value (route.Point point) = Point (option_map (λ s. s.now) point)
route_value (route.Report date) = Report (option_map (λ s. s.now) date)
route_value route.Points = Points
route_value (route.Why point) = Why (option_map (λ s. s.now) point)
route_value (route.Panel panel) = Panel (option_map (λ s. s.now) panel)
route_value route.Record = Record
route_value route.Metrics = Metrics

abbrev pub route_with : Row → Option Text → RouteValue
route_with row.Commands parameter = Commands parameter
route_with row.Skip parameter = Skip parameter
route_with row.Tick parameter = Tick
route_with row.Imports parameter = Imports
route_with row.Point parameter = Point parameter
route_with row.Report parameter = Report parameter
route_with row.Points parameter = Points
route_with row.Why parameter = Why parameter
route_with row.Panel parameter = Panel parameter
route_with row.Record parameter = Record
route_with row.Metrics parameter = Metrics

-- what the first parameter took
abbrev pub first_part : List (Text × Text) → Option Text
first_part [] = None
first_part ((name, part) ∷ rest) = Some part

abbrev pub is_ascii_byte : ℕ → Bool
is_ascii_byte byte = ltb byte 128

-- the same, if all of the target is ASCII
abbrev pub part_taken : Text → List (Text × Text) → Option Text
part_taken target parts = if list_all is_ascii_byte target then first_part parts else None

abbrev pub parameter_of : Text → RouteOf Row → Option Text
parameter_of target found = part_taken target (walk found.pattern found.text target found.names 0 0)

-- the row that `matchit` finds for the target, with its parameter
abbrev pub route_among : Text → Rows → Option RouteValue
route_among target rows =
    option_map (λ found. route_with found.value (parameter_of target found)) (first rows target)

abbrev pub route_of : Text → Text → Option RouteValue
route_of method target = option_and_then (route_among target) (rows_of method)

-- how many bytes the body of a POST may have
abbrev pub limit_of : RouteValue → Option ℕ
limit_of (Commands panel) = Some 65536
limit_of (Skip panel) = Some 65536
limit_of Tick = Some 65536
limit_of Imports = Some 262144
limit_of (Point point) = None
limit_of (Report date) = None
limit_of Points = None
limit_of (Why point) = None
limit_of (Panel panel) = None
limit_of Record = None
limit_of Metrics = None
