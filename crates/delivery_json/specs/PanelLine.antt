-- The command or the skip that an object tells.
use Rattle.std.specs.Prelude.{ℕ, List, [], ◌∷◌, Option, Some, None, codes}
use Rattle.serde_json.specs.Data.{Data}
use Rattle.serde_json.specs.Find.{as_object, get}
use Rattle.deliveries.specs.declared.delivery.Delivery.{Delivery}
use Rattle.deliveries.specs.declared.delivery.Delivery.TheVariants.{Command, Skip}
pub use Rattle.delivery_json.specs.Readings.{command_keys, has_only, integer_in, name_in, priority_in, value_in}
use Rattle.delivery_json.specs.declared.panel_line.CommandBody.{CommandBody}
use Rattle.points.specs.Steps.{◌>>=◌, where_holds}

-- what an object tells of a command beside its panel
unfoldable pub command_body_in : Data → Option CommandBody
command_body_in d = do
  number ← get (codes "number") d >>= integer_in
  point ← get (codes "point") d >>= name_in
  priority ← priority_in (get (codes "priority") d)
  value ← get (codes "value") d >>= value_in
  Some (record { number = number; content = record { point = point; priority = priority; value = value } })

-- the command that an object tells
unfoldable pub command_in : Data → Option Delivery
command_in d = do
  ms ← as_object d
  panel ← get (codes "panel") d >>= name_in
  reported ← command_body_in d
  where_holds (has_only command_keys ms) (Command panel reported.number reported.content)

-- the keys that a skip's line has
abbrev pub skip_keys : List (List ℕ)
skip_keys = codes "panel" ∷ codes "skip" ∷ []

-- the skip that an object tells
unfoldable pub skip_in : Data → Option Delivery
skip_in d = do
  ms ← as_object d
  panel ← get (codes "panel") d >>= name_in
  upto ← get (codes "skip") d >>= integer_in
  where_holds (has_only skip_keys ms) (Skip panel upto)

abbrev pub panel_delivery_with : Option Data → Data → Option Delivery
panel_delivery_with None d = command_in d
panel_delivery_with (Some upto) d = skip_in d

-- an object with the key `skip` tells a skip or nothing, another one a command or nothing
unfoldable pub panel_delivery_in : Data → Option Delivery
panel_delivery_in d = panel_delivery_with (get (codes "skip") d) d
