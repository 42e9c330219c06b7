-- When a panel's command gave a point its value.
use Rattle.std.specs.Prelude.{ℕ, ℤ, Bool, false, ◌&&◌, ◌==◌, if◌then◌else◌, List, [], ◌∷◌, ◌++◌, Option, Some, None}
use Rattle.std.specs.Str.{bytes_eq}
use Rattle.building.specs.Building.{Building}
use Rattle.deliveries.specs.declared.delivery.Delivery.{Delivery}
use Rattle.deliveries.specs.Events.{machine}
use Rattle.desk_why.specs.declared.author.Author.{Author}
use Rattle.desk_why.specs.declared.author.Author.TheVariants as by
use Rattle.desk_why.specs.declared.author.Held.{Held}
use Rattle.desk_why.specs.declared.author.Place.{Place}
use Rattle.desk_why.specs.Authors.{places_of}
use Rattle.points.specs.Texts.{Text}
use Rattle.desk_overrides.specs.declared.overriding.Ended.{Ended}
use Rattle.desk_overrides.specs.declared.overriding.Given.{Given}
use Rattle.desk_overrides.specs.declared.overriding.Look.{Look}
use Rattle.desk_overrides.specs.declared.overriding.Override.{Override}

-- ---- what gives a point its value

-- a panel's command, or nothing that is one
abbrev pub given_by : ℕ → ℤ → Author → Option Given
given_by priority value (by.Command panel number after) =
    Some (record { value = value; priority = priority; panel = panel; number = number })
given_by priority value (by.Schedule schedule source settling) = None
given_by priority value by.BeforeRecord = None

-- the first of the places that holds a value gives it
abbrev pub given_or : ℕ → Option Held → Option Given → Option Given
given_or priority None next = next
given_or priority (Some held) next = given_by priority held.value held.author

abbrev pub given_in : List Place → Option Given
given_in [] = None
given_in (place ∷ places) = given_or place.priority place.held (given_in places)

-- the command that gives it after the deliveries of a record, which begins behind earlier ones, and their last tick
abbrev pub look : Building → (earlier deliveries : List Delivery) → Text → Look
look building earlier deliveries point = record {
  given = given_in (places_of building earlier deliveries point);
  last = (machine building (earlier ++ deliveries)).last_tick;
}

-- the same after each of the later deliveries
abbrev pub looks : Building → (earlier before later : List Delivery) → Text → List Look
looks building earlier before [] point = []
looks building earlier before (delivery ∷ later) point =
    look building earlier (before ++ delivery ∷ []) point ∷ looks building earlier (before ++ delivery ∷ []) later point

-- ---- overrides

-- a panel's number names one command
abbrev pub is_given : Option Given → Given → Bool
is_given None given = false
is_given (Some other) given = bytes_eq other.panel given.panel && other.number == given.number

-- an override ends at the first look at which its command does not give the value
abbrev pub ended_in : Given → List Look → Option Ended
ended_in given [] = None
ended_in given (look ∷ looks) = if is_given look.given given then ended_in given looks else Some (record { last = look.last })

abbrev pub override_by : Given → Option ℤ → List Look → Override
override_by given began later = record { given = given; began = began; ended = ended_in given later }

-- and begins at one at which a command gives it that did not just before
abbrev pub begun : Option Given → Option Given → Option ℤ → List Look → List Override
begun before None last later = []
begun before (Some given) last later = if is_given before given then [] else override_by given last later ∷ []

abbrev pub overrides : Option Given → List Look → List Override
overrides before [] = []
overrides before (look ∷ later) = begun before look.given look.last later ++ overrides look.given later

-- the overrides of a point, in the order in which they began
unfoldable pub overrides_of : Building → (earlier deliveries : List Delivery) → Text → List Override
overrides_of building earlier deliveries point = overrides None (looks building earlier [] deliveries point)
