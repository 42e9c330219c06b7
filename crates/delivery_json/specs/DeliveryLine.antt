-- What a line of JSON tells, by `serde_json`'s own reading of it.
use Rattle.std.specs.Prelude.{ℕ, List, Option, Some, None, codes}
use Rattle.serde_json.specs.Data.{Data}
use Rattle.serde_json.specs.Find.{get}
use Rattle.serde_json.specs.Read.{read}
use Rattle.building.specs.Building.{Building}
use Rattle.deliveries.specs.declared.delivery.Delivery.{Delivery}
use Rattle.delivery_json.specs.declared.parsed_line.ParsedLine.{ParsedLine}
use Rattle.delivery_json.specs.declared.parsed_line.ParsedLine.TheVariants as parsed
use Rattle.delivery_json.specs.ClockLine.{import_in, tick_in}
use Rattle.delivery_json.specs.PanelLine.{panel_delivery_in}
use Rattle.points.specs.Steps.{◌>>=◌}
use Rattle.points.specs.Texts.{text_of}

-- the value of a JSON text, which is UTF-8
abbrev pub json_of : List ℕ → Option Data
json_of bytes = text_of bytes >>= read

abbrev pub delivery_with : Option Data → Data → Option Delivery
delivery_with None value = tick_in value
delivery_with (Some panel) value = panel_delivery_in value

-- an object with the key `panel` tells what a panel sends or nothing, another one a tick or nothing
unfoldable pub delivery_in : Data → Option Delivery
delivery_in value = delivery_with (get (codes "panel") value) value

abbrev pub parsed_with : Building → Data → Option Delivery → Option ParsedLine
parsed_with building value None = import_in building value
parsed_with building value (Some delivery) = Some (parsed.Delivery delivery)

-- what an object tells: a delivery without a holiday list, or an import; each kind has its own keys, and no other
unfoldable pub parsed_in : Building → Data → Option ParsedLine
parsed_in building value = parsed_with building value (delivery_in value)

-- what a line tells; an import is one of entries for calendars of the building
unfoldable pub parse_line : Building → List ℕ → Option ParsedLine
parse_line building line = json_of line >>= parsed_in building
