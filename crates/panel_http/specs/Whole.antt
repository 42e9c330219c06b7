-- The bytes of an input that ask the same whatever follows them.
use Rattle.std.specs.Prelude.{◌≡◌, ◌<◌, ◌≤◌, ◌-◌, ◌↔◌, ℕ, List, ◌++◌, length, Result, Ok, Err}
use Rattle.building.specs.Building.{Building}
use Rattle.panel_http.specs.AskedRoute.{RouteAndLength}
use Rattle.panel_http.specs.Requests.{IsRequest}
use Rattle.panel_http.specs.declared.request.Request.{Request}
use Rattle.panel_http.specs.declared.refusal.Refusal.{Refusal}

-- how many bytes a head asks for beside so many that have come after it
abbrev pub lacks_of : Result RouteAndLength Refusal → ℕ → ℕ
lacks_of (Ok (route, size)) after = size - after
lacks_of (Err refusal) after = 0

-- There is a byte, and whether the input ends here or goes on, in whatever way, the same is asked.
pub record IsWhole (building : Building) (bytes : List ℕ) : Type 0 where
  pub some : 0 < length bytes
  pub steady : (request : Request) (more : List ℕ) → IsRequest building bytes request ↔ IsRequest building (bytes ++ more) request

-- so many more bytes are waited for: none exactly where these are whole, and else no more than make them so
pub record Lacks (building : Building) (bytes : List ℕ) (count : ℕ) : Type 0 where
  pub whole : (count ≡ 0) ↔ IsWhole building bytes
  pub least : (more : List ℕ) → IsWhole building (bytes ++ more) → count ≤ length more
