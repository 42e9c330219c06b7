-- What the head of a request asks.
use Rattle.std.specs.Prelude.{ℕ, nat_le, if◌then◌else◌, Option, Some, None, Result, Ok, Err}
use Rattle.httparse.specs.Grammar.{RequestHead}
use Rattle.panel_http.specs.BodyLength.{body_length_of}
use Rattle.panel_http.specs.Routes.{RouteValue, limit_of, route_of, route_value}
use Rattle.panel_http.specs.declared.refusal.Refusal.{Refusal}
use Rattle.panel_http.specs.declared.refusal.Refusal.TheVariants.{NoRoute, TooLong, UnclearLength}
use Rattle.panel_http.specs.declared.asked_route.AskedRoute.{AskedRoute}

-- a route, and the length of its body
abbrev pub RouteAndLength : Type 0
RouteAndLength = RouteValue × ℕ

abbrev pub shown : AskedRoute → RouteAndLength
shown asked = (route_value asked.route, asked.length)

-- nothing past the head of a GET is looked at; a POST has a limit (H4)
abbrev pub with_limit : Option ℕ → RouteValue → ℕ → Result RouteAndLength Refusal
with_limit None route length = Ok (route, 0)
with_limit (Some limit) route length = if nat_le length limit then Ok (route, length) else Err TooLong

abbrev pub within_limit : RouteValue → ℕ → Result RouteAndLength Refusal
within_limit route length = with_limit (limit_of route) route length

abbrev pub to_route : Option RouteValue → ℕ → Result RouteAndLength Refusal
to_route None length = Err NoRoute
to_route (Some route) length = within_limit route length

abbrev pub of_length : Option ℕ → Option RouteValue → Result RouteAndLength Refusal
of_length None route = Err UnclearLength
of_length (Some length) route = to_route route length

-- what a head asks, or the first refusal: H2, no route, H4
unfoldable pub route_asked : RequestHead → Result RouteAndLength Refusal
route_asked head = of_length (body_length_of head) (route_of head.method head.target)
