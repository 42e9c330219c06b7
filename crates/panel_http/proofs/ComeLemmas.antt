-- Bytes that ask neither what bytes without a head ask nor what those of a cut body ask are whole.
use Rattle.std.proofs.Common.{◌≡◌, ◌<◌, inl, inr, ℕ, List, length, refl, arith, Result, Ok, Err}
use Rattle.building.specs.Building.{Building}
use Rattle.panel_http.specs.AskedRoute.{RouteAndLength, route_asked}
use Rattle.panel_http.specs.Requests.{IsAskedBy, IsRequest}
use Rattle.panel_http.specs.Whole.{IsWhole, lacks_of}
use Rattle.panel_http.specs.declared.request.Request.{Request}
use Rattle.panel_http.specs.declared.request.Request.TheVariants.{Refused}
use Rattle.panel_http.specs.declared.refusal.Refusal.{Refusal}
use Rattle.panel_http.specs.declared.refusal.Refusal.TheVariants.{CutBody, NoHead}
use Rattle.panel_http.proofs.WholeLemmas.{head-steady}

-- what a head asks is no cut body, so it lacks no byte of it
nothing-lacks : (b : Building) (asked : Result RouteAndLength Refusal) (after : List ℕ) (request : Request)
    → IsAskedBy b asked after request → ¬ (request ≡ Refused CutBody) → lacks_of asked (length after) ≡ 0
nothing-lacks b (Err refusal) after request asks uncut = refl
nothing-lacks b (Ok (route, size)) after request (inl is) uncut = let fits = is.0 in omega arith
nothing-lacks b (Ok (route, size)) after request (inr is) uncut = absurd (uncut is.1)

pub asked-whole : (b : Building) (bytes : List ℕ) (request : Request) → 0 < length bytes → IsRequest b bytes request
    → ¬ (request ≡ Refused NoHead) → ¬ (request ≡ Refused CutBody) → IsWhole b bytes
asked-whole b bytes request some (inr without) headed uncut = absurd (headed without.1)
asked-whole b bytes request some (inl of) headed uncut =
    head-steady b bytes of.after of.head some of.is_head (nothing-lacks b (route_asked of.head) of.after request of.asks uncut)
