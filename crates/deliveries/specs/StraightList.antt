-- The straight list of deliveries: what a perfect network would have brought, with no repeats, gaps or parked commands.
use Rattle.std.specs.Prelude.{List, [], ◌∷◌, ◌++◌, map, pos}
use Rattle.std.specs.List.{flat_map}
use Rattle.building.specs.Building.{Building}
use Rattle.deliveries.specs.declared.delivery.Delivery.{Delivery}
use Rattle.deliveries.specs.declared.delivery.Delivery.TheVariants as delivery_of
use Rattle.deliveries.specs.Accepted.{panel_of, taken_by}
use Rattle.deliveries.specs.Events.{clock_event, machine}
use Rattle.deliveries.specs.Machine.{Command, Event, Import, Tick}
use Rattle.points.specs.declared.panel.Panel.{Panel}
use Rattle.points.specs.Texts.{Text}
use Rattle.window.specs.Taken as asks
use Rattle.deliveries.specs.Cut.{cut_event}
use Rattle.window.specs.Parked.{parked_asks}
use Rattle.window.specs.Straightened.{straightened}

-- what a panel asks, as a delivery
abbrev pub sent : Text → asks.Ask → Delivery
sent panel (asks.Command number content) = delivery_of.Command panel (pos number) content
sent panel (asks.Skip upto) = delivery_of.Skip panel (pos upto)

-- a tick or an import, as a delivery
abbrev pub sent_by_clock : Event → List Delivery
sent_by_clock (Command panel number content) = []
sent_by_clock (Tick moment) = delivery_of.Tick moment ∷ []
sent_by_clock (Import rows) = delivery_of.Import rows ∷ []

-- What one more delivery becomes: what its panel's front passes, by rising number; a tick that is acted on; and the
-- rows that an import adds, if there are any.
abbrev pub straightened_by : Building → List Delivery → Delivery → List Delivery
straightened_by building earlier delivery =
    let panel = panel_of delivery in
    let now = earlier ++ delivery ∷ [] in
    map (sent panel) (straightened (taken_by building panel earlier) (taken_by building panel now))
    ++ flat_map sent_by_clock (flat_map (cut_event building (machine building earlier)) (clock_event building earlier delivery))

-- what further deliveries become, each at its place
abbrev pub straightened_after : Building → List Delivery → List Delivery → List Delivery
straightened_after building earlier [] = []
straightened_after building earlier (delivery ∷ deliveries) =
    straightened_by building earlier delivery ++ straightened_after building (earlier ++ delivery ∷ []) deliveries

-- the commands of one panel that are still parked
abbrev pub parked_of : Building → List Delivery → Panel → List Delivery
parked_of building deliveries panel = map (sent panel.name) (parked_asks (taken_by building panel.name deliveries))

-- the straight list: what each delivery becomes, and last, panel by panel, the commands that are still parked
unfoldable pub straight_list : Building → List Delivery → List Delivery
straight_list building deliveries = straightened_after building [] deliveries ++ flat_map (parked_of building deliveries) building.panels
