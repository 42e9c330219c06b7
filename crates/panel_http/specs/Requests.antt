-- What the bytes of an input ask of the desk of a building, or of its follower.
use Rattle.std.specs.Prelude.{◌≡◌, ◌<◌, ◌≤◌, ◌↔◌, ◌⊎◌, ℕ, List, [], length, take, Option, Some, None, Result, Ok, Err}
use Rattle.jiff_core.specs.declared.civil.date.Date.{Date}
use Rattle.building.specs.Building.{Building}
use Rattle.dates.specs.Day.{SpellsDay}
use Rattle.httparse.specs.Grammar.{RequestHead}
use Rattle.panel_http.specs.AskedRoute.{RouteAndLength, route_asked}
use Rattle.delivery_json.specs.ClockLine.{import_of}
use Rattle.panel_http.specs.RequestBody.{command_body, named, of_import, skip_body, tick_body}
use Rattle.panel_http.specs.Heads.{HasNoHead, IsHead}
use Rattle.panel_http.specs.Routes as routes
use Rattle.panel_http.specs.Routes.{RouteValue}
use Rattle.panel_http.specs.declared.refusal.Refusal.{Refusal}
use Rattle.panel_http.specs.declared.refusal.Refusal.TheVariants.{CutBody, NoHead, NotDelivery}
use Rattle.panel_http.specs.declared.request.Request.{Request}
use Rattle.panel_http.specs.declared.request.Request.TheVariants.{Point, Refused, Report, View}
use Rattle.panel_http.specs.declared.view.View.TheVariants as view

-- ---- by the route

-- the day that a segment of the target spells, if it spells one
abbrev pub IsDay : Option (List ℕ) → Option Date → Type 0
IsDay None day = day ≡ None
IsDay (Some text) day = (it : Date) → (day ≡ Some it) ↔ SpellsDay text it

-- what a body says, or H6
abbrev pub or_refused : Option Request → Request
or_refused None = Refused NotDelivery
or_refused (Some request) = request

-- the request to a route, by its body
abbrev pub IsRequestTo : Building → RouteValue → List ℕ → Request → Type 0
IsRequestTo building (routes.Commands segment) body request = request ≡ or_refused (command_body segment body)
IsRequestTo building (routes.Skip segment) body request = request ≡ or_refused (skip_body segment body)
IsRequestTo building routes.Tick body request = request ≡ or_refused (tick_body body)
IsRequestTo building routes.Imports body request = request ≡ of_import (import_of building body)
IsRequestTo building (routes.Point segment) body request = request ≡ Point (named segment)
IsRequestTo building (routes.Report segment) body request = (day : Option Date) × (request ≡ Report day) × IsDay segment day
IsRequestTo building routes.Points body request = request ≡ View view.Points
IsRequestTo building (routes.Why segment) body request = request ≡ View (view.Why (named segment))
IsRequestTo building (routes.Panel segment) body request = request ≡ View (view.Panel (named segment))
IsRequestTo building routes.Record body request = request ≡ View view.Record
IsRequestTo building routes.Metrics body request = request ≡ View view.Metrics

-- ---- by the head

-- the body is the first bytes after the head, or the input ended inside it (H5)
abbrev pub IsAsked : Building → RouteAndLength → List ℕ → Request → Type 0
IsAsked building (route, size) after request =
    ((size ≤ length after) × IsRequestTo building route (take size after) request)
    ⊎ ((length after < size) × (request ≡ Refused CutBody))

-- what a head asks, with what comes after it; H2, no route and H4 come before that is looked at
abbrev pub IsAskedBy : Building → Result RouteAndLength Refusal → List ℕ → Request → Type 0
IsAskedBy building (Ok asked) after request = IsAsked building asked after request
IsAskedBy building (Err refusal) after request = request ≡ Refused refusal

-- ---- by the bytes

-- an input begins with a head and asks what that asks, or it has none (H1)
pub record IsOfHead (building : Building) (bytes : List ℕ) (request : Request) : Type 0 where
  pub head : RequestHead
  pub after : List ℕ
  pub is_head : IsHead bytes head after
  pub asks : IsAskedBy building (route_asked head) after request

abbrev pub IsRequest : Building → List ℕ → Request → Type 0
IsRequest building bytes request = IsOfHead building bytes request ⊎ (HasNoHead bytes × (request ≡ Refused NoHead))
