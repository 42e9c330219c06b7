-- The request that a body is, by the route that it came to.
use Rattle.std.specs.Prelude.{ℕ, ℤ, List, [], ◌∷◌, Option, Some, None, codes, option_and_then, option_map}
use Rattle.serde_json.specs.Data.{Data}
use Rattle.serde_json.specs.Find.{as_object}
use Rattle.deliveries.specs.declared.delivery.Delivery.TheVariants.{Command, Skip, Tick}
use Rattle.delivery_json.specs.DeliveryLine.{json_of}
use Rattle.delivery_json.specs.Members.{has_only, lone_integer}
use Rattle.delivery_json.specs.PanelLine.{command_body_in}
use Rattle.delivery_json.specs.declared.panel_line.CommandBody.{CommandBody}
use Rattle.delivery_json.specs.declared.parsed_line.ParsedLine.{ParsedLine}
use Rattle.delivery_json.specs.declared.parsed_line.ParsedLine.TheVariants as parsed
use Rattle.panel_http.specs.declared.request.Request.{Request}
use Rattle.panel_http.specs.declared.request.Request.TheVariants.{Delivery, NoPanel, RefusedImport}
use Rattle.points.specs.Steps.{◌>>=◌, where_holds}
use Rattle.points.specs.Texts.{name_of}

-- the name that a segment of the target is, if it is one
abbrev pub named : Option (List ℕ) → Option (List ℕ)
named segment = option_and_then name_of segment

-- the keys that the body of a command may have
abbrev pub command_keys : List (List ℕ)
command_keys = codes "number" ∷ codes "point" ∷ codes "priority" ∷ codes "value" ∷ []

-- what an object has of a command, beside its panel: with these keys, and no other
unfoldable pub command_in : Data → Option CommandBody
command_in d = do
  ms ← as_object d
  command ← command_body_in d
  where_holds (has_only command_keys ms) command

-- a command, and a skip, of a panel of that name
abbrev pub command_by : Option (List ℕ) → CommandBody → Request
command_by None command = NoPanel
command_by (Some panel) command = Delivery (Command panel command.number command.content)

abbrev pub skip_by : Option (List ℕ) → ℤ → Request
skip_by None upto = NoPanel
skip_by (Some panel) upto = Delivery (Skip panel upto)

-- what an object is to each route
abbrev pub command_of : Option (List ℕ) → Data → Option Request
command_of panel d = option_map (command_by panel) (command_in d)

abbrev pub skip_of : Option (List ℕ) → Data → Option Request
skip_of panel d = option_map (skip_by panel) (lone_integer (codes "upto") d)

abbrev pub tick_of : Data → Option Request
tick_of d = option_map (λ at. Delivery (Tick at)) (lone_integer (codes "at") d)

-- the same of a body that is a JSON text
unfoldable pub command_body : Option (List ℕ) → List ℕ → Option Request
command_body segment body = json_of body >>= command_of (named segment)

unfoldable pub skip_body : Option (List ℕ) → List ℕ → Option Request
skip_body segment body = json_of body >>= skip_of (named segment)

unfoldable pub tick_body : List ℕ → Option Request
tick_body body = json_of body >>= tick_of

-- what an import is, whose list may be at fault
abbrev pub of_import : ParsedLine → Request
of_import (parsed.Delivery delivery) = Delivery delivery
of_import (parsed.RefusedImport fault) = RefusedImport fault
