-- What each place holds, and what put it there: of the events of a record's deliveries the last that wrote it; where none
-- did, what it held before the record.
use Rattle.std.specs.Prelude.{ℕ, ℤ, Bool, ◌&&◌, ◌==◌, if◌then◌else◌, List, [], ◌∷◌, map, Option, Some, None, is_none, option_map}
use Rattle.std.specs.FinMap.{get}
use Rattle.std.specs.Str.{bytes_eq}
use Rattle.building.specs.Building.{Building}
use Rattle.deliveries.specs.declared.delivery.Delivery.{Delivery}
use Rattle.deliveries.specs.Events.{events_after, machine}
use Rattle.deliveries.specs.Machine.{Event, Command, Import, Machine, Tick, local_of, place_of, rule_for, step, with_rows}
use Rattle.points.specs.declared.content.Content.{Content}
use Rattle.points.specs.PriorityArray.{Places}
use Rattle.desk_settling.specs.Settled.{Shown}
use Rattle.points.specs.Texts.{Text}
use Rattle.desk_why.specs.declared.author.Held.{Held}
use Rattle.desk_why.specs.declared.author.Place.{Place}
use Rattle.desk_why.specs.declared.author.Author.TheVariants as by
use Rattle.desk_why.specs.declared.author.Settling.TheVariants as at
use Rattle.desk_why.specs.Settling.{held_at}

-- ---- a command

-- no rule is against it, and it is for this place
abbrev pub writes_place : Building → Text → Content → Text → ℕ → Bool
writes_place building panel content point priority =
    is_none (rule_for building panel content) && (bytes_eq content.point point && place_of content.priority == priority)

-- what it puts: a value, unless that is NULL
abbrev pub held_by_command : Text → ℕ → Option ℤ → Option ℤ → Option Held
held_by_command panel number after value =
    option_map (λ value. record { value = value; author = by.Command panel number after }) value

abbrev pub held_after_command : Building → Option ℤ → Text → ℕ → Content → Text → ℕ → Option Held → Option Held
held_after_command building after panel number content point priority held =
    if writes_place building panel content point priority then held_by_command panel number after content.value else held

-- ---- one event after another

-- an import settles at the moment of the last tick, if there was one
abbrev pub held_at_last : Building → (Text → List Text) → Shown → Option ℤ → Text → ℕ → Option Held → Option Held
held_at_last building imported shown None point priority held = held
held_at_last building imported shown (Some last) point priority held =
    held_at building imported shown (at.Import last) (local_of building (Some last)) point priority held

-- what a point's place holds after an event
abbrev pub held_after : Building → Machine → Event → Text → ℕ → Option Held → Option Held
held_after building machine (Command panel number content) point priority held =
    held_after_command building machine.last_tick panel number content point priority held
held_after building machine (Tick moment) point priority held =
    held_at building machine.imported machine.shown (at.Tick moment) (local_of building (Some moment)) point priority held
held_after building machine (Import rows) point priority held =
    let now = with_rows building machine rows in held_at_last building now.imported now.shown now.last_tick point priority held

abbrev pub held_along : Building → Machine → List Event → Text → ℕ → Option Held → Option Held
held_along building machine [] point priority held = held
held_along building machine (event ∷ events) point priority held =
    held_along building (step building machine event) events point priority (held_after building machine event point priority held)

-- what a place holds where a record begins: whatever is there was put before it
abbrev pub held_before : Places → ℕ → Option Held
held_before places priority =
    option_map (λ value. record { value = value; author = by.BeforeRecord }) (get places priority)

-- what a point's place holds after the deliveries of a record that begins behind earlier ones, with what put it there
unfoldable pub held_of : Building → (earlier deliveries : List Delivery) → Text → ℕ → Option Held
held_of building earlier deliveries point priority =
    let begun = machine building earlier in
    held_along building begun (events_after building earlier deliveries) point priority (held_before (begun.places point) priority)

-- ---- the places of a point

abbrev pub priorities : List ℕ
priorities = 1 ∷ 2 ∷ 3 ∷ 4 ∷ 5 ∷ 6 ∷ 7 ∷ 8 ∷ 9 ∷ 10 ∷ 11 ∷ 12 ∷ 13 ∷ 14 ∷ 15 ∷ 16 ∷ []

abbrev pub place_at : Building → (earlier deliveries : List Delivery) → Text → ℕ → Place
place_at building earlier deliveries point priority =
    record { priority = priority; held = held_of building earlier deliveries point priority }

-- the sixteen places of a point after the deliveries of a record
unfoldable pub places_of : Building → (earlier deliveries : List Delivery) → Text → List Place
places_of building earlier deliveries point = map (place_at building earlier deliveries point) priorities
