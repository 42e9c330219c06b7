-- What each panel gets accepted of a list of deliveries: commands and skips, none with a number out of range.
use Rattle.std.specs.Prelude.{ℕ, ◌+◌, ◌&&◌, nat_le, if◌then◌else◌, List, [], ◌∷◌, Option, Some, None, is_some, ℤ, pos, negsuc, find}
use Rattle.std.specs.List.{flat_map}
use Rattle.std.specs.Str.{bytes_eq}
use Rattle.points.specs.declared.content.Content.{Content}
use Rattle.points.specs.declared.panel.Panel.{Panel}
use Rattle.points.specs.Texts.{Text}
use Rattle.points.specs.declared.numbered_row.TheConstants.{LAST_NUMBER}
use Rattle.window.specs.Taken as asks
use Rattle.building.specs.Building.{Building}
use Rattle.deliveries.specs.declared.delivery.Delivery.{Delivery}
use Rattle.deliveries.specs.declared.delivery.Delivery.TheVariants.{Command, Skip, Tick, Import}

abbrev pub panel_named : Building → Text → Option Panel
panel_named building name = find (λ panel. bytes_eq panel.name name) building.panels

-- a number from 1 to the last one
abbrev pub number_upto : ℕ → ℤ → Option ℕ
number_upto last (pos n) = if nat_le 1 n && nat_le n last then Some n else None
number_upto last (negsuc n) = None

-- the panel's name; a tick and an import ask nothing of a panel, whatever its name
abbrev pub panel_of : Delivery → Text
panel_of (Command panel number content) = panel
panel_of (Skip panel upto) = panel
panel_of (Tick at) = []
panel_of (Import rows) = []

abbrev pub ask_command : Option ℕ → Content → Option asks.Ask
ask_command None content = None
ask_command (Some number) content = Some (asks.Command number content)

abbrev pub ask_skip : Option ℕ → Option asks.Ask
ask_skip None = None
ask_skip (Some upto) = Some (asks.Skip upto)

-- what a delivery asks of its panel's numbers: nothing, where its number is out of range
abbrev pub asked : Delivery → Option asks.Ask
asked (Command panel number content) = ask_command (number_upto LAST_NUMBER number) content
asked (Skip panel upto) = ask_skip (number_upto (LAST_NUMBER + 1) upto)
asked (Tick at) = None
asked (Import rows) = None

abbrev pub listed : Option asks.Ask → List asks.Ask
listed None = []
listed (Some ask) = ask ∷ []

-- what a delivery asks of one panel's numbers: a panel that the building lacks is asked nothing
abbrev pub asks_of : Building → Text → Delivery → List asks.Ask
asks_of building panel delivery =
    if bytes_eq (panel_of delivery) panel && is_some (panel_named building panel) then listed (asked delivery) else []

-- what was accepted of a panel from a list of deliveries
abbrev pub taken_by : Building → Text → List Delivery → asks.Taken
taken_by building panel deliveries = asks.taken asks.opening (flat_map (asks_of building panel) deliveries)
