-- What deliveries make happen, in order: a parked command waits for the front, an old tick counts for nothing.
use Rattle.std.specs.Prelude.{ℤ, Bool, true, ◌&&◌, nat_lt, if◌then◌else◌, List, [], ◌∷◌, ◌++◌, fold, length, map, Option, Some, None, is_some, int_lt}
use Rattle.std.specs.List.{list_all}
use Rattle.local_times.specs.LocalTimes.{local_at}
use Rattle.sched.specs.declared.calendar.CalendarEntry.{CalendarEntry}
use Rattle.points.specs.Texts.{Text}
use Rattle.window.specs.declared.numbered_content.NumberedContent.{NumberedContent}
use Rattle.window.specs.Applied.{applied}
use Rattle.building.specs.Building.{Building}
use Rattle.deliveries.specs.declared.delivery.Delivery.{Delivery}
use Rattle.deliveries.specs.declared.delivery.Delivery.TheVariants as delivery_of
use Rattle.deliveries.specs.Accepted.{panel_of, taken_by}
use Rattle.deliveries.specs.Machine.{Event, Command, Tick, Import, Machine, opening_machine, run}

-- a panel's contents as commands that are acted on
abbrev pub events_of : Text → List NumberedContent → List Event
events_of panel contents = map (λ entry. Command panel entry.number entry.content) contents

-- the commands that one more delivery has acted on: those of its panel that the front passes, in number order
abbrev pub commands_of : Building → List Delivery → Delivery → List Event
commands_of building earlier delivery =
    let panel = panel_of delivery in
    let now = earlier ++ delivery ∷ [] in
    events_of panel (applied (taken_by building panel earlier) (taken_by building panel now))

-- a moment that has a local time in range
abbrev pub is_moment : Building → ℤ → Bool
is_moment building moment = is_some (local_at building.zone moment)

-- the moment of a tick, where it is in range
abbrev pub moment_of : Building → Delivery → Option ℤ
moment_of building (delivery_of.Command panel number content) = None
moment_of building (delivery_of.Skip panel upto) = None
moment_of building (delivery_of.Tick moment) = if is_moment building moment then Some moment else None
moment_of building (delivery_of.Import rows) = None

abbrev pub later : Option ℤ → ℤ → ℤ
later None moment = moment
later (Some last) moment = if int_lt last moment then moment else last

abbrev pub later_of : Option ℤ → Option ℤ → Option ℤ
later_of last None = last
later_of last (Some moment) = Some (later last moment)

-- the greatest moment of the ticks in range
abbrev pub last_tick_of : Building → List Delivery → Option ℤ
last_tick_of building deliveries = fold (λ last delivery. later_of last (moment_of building delivery)) None deliveries

abbrev pub is_later : Option ℤ → ℤ → Bool
is_later None moment = true
is_later (Some last) moment = int_lt last moment

-- each row names a calendar of the building
abbrev pub has_calendar : Building → CalendarEntry → Bool
has_calendar building row = nat_lt row.calendar.index (length building.calendars)

-- a tick in range that is later than each before it, and an import of which each row has its calendar
abbrev pub clock_event : Building → List Delivery → Delivery → List Event
clock_event building earlier (delivery_of.Command panel number content) = []
clock_event building earlier (delivery_of.Skip panel upto) = []
clock_event building earlier (delivery_of.Tick moment) =
    if is_moment building moment && is_later (last_tick_of building earlier) moment then Tick moment ∷ [] else []
clock_event building earlier (delivery_of.Import rows) = if list_all (has_calendar building) rows then Import rows ∷ [] else []

-- what one more delivery has acted on
abbrev pub acted_on : Building → List Delivery → Delivery → List Event
acted_on building earlier delivery = commands_of building earlier delivery ++ clock_event building earlier delivery

-- what further deliveries have acted on, each at its place
abbrev pub events_after : Building → List Delivery → List Delivery → List Event
events_after building earlier [] = []
events_after building earlier (delivery ∷ deliveries) =
    acted_on building earlier delivery ++ events_after building (earlier ++ delivery ∷ []) deliveries

-- the machine after a list of deliveries
unfoldable pub machine : Building → List Delivery → Machine
machine building deliveries = run building opening_machine (events_after building [] deliveries)
