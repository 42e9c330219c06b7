-- What is told of the bytes of an input that have come.
use Rattle.std.specs.Prelude.{ℕ, List}
use Rattle.building.specs.Building.{Building}
use Rattle.panel_http.specs.Requests.{IsRequest}
use Rattle.panel_http.specs.Whole.{IsWhole, Lacks}
use Rattle.panel_http.specs.declared.come.Come.{Come}
use Rattle.panel_http.specs.declared.come.Come.TheVariants as come

-- they are whole and ask this; or so many more are waited for, by whatever building
abbrev pub IsCome : Building → List ℕ → Come → Type 0
IsCome building bytes (come.Asks request) = IsWhole building bytes × IsRequest building bytes request
IsCome building bytes (come.Lacks count) = (any : Building) → Lacks any bytes count
