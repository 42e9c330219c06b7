-- What is known of a point's overrides so far.
use Rattle.std.specs.Prelude.{◌≡◌, ℕ, ℤ, List, [], ◌∷◌, ◌++◌, map, Option, Some, None, option_map}
use Rattle.std.specs.List.{All, filter, flat_map}
use Rattle.building.specs.Building.{Building}
use Rattle.deliveries.specs.declared.delivery.Delivery.{Delivery}
use Rattle.desk_why.specs.declared.author.Held.{Held}
use Rattle.desk_why.specs.declared.author.Place.{Place}
use Rattle.desk_why.specs.Authors.{priorities}
use Rattle.points.specs.declared.point.Point.{Point}
use Rattle.points.specs.Texts.{Text}
use Rattle.desk_overrides.specs.declared.overriding.Given.{Given}
use Rattle.desk_overrides.specs.declared.overriding.Look.{Look}
use Rattle.desk_overrides.specs.declared.overriding.Override.{Override}
use Rattle.desk_overrides.specs.declared.watch.Standing.{Standing}
use Rattle.desk_overrides.specs.declared.watch.Watch.{Watch}
use Rattle.desk_overrides.specs.Lines.{is_asked, override_line}
use Rattle.desk_overrides.specs.Overrides.{given_in, looks, override_by, overrides}

-- what gives a point its value, by what its places hold
abbrev pub place_in : (ℕ → Option Held) → ℕ → Place
place_in held priority = record { priority = priority; held = held priority }

unfoldable pub given_from : (ℕ → Option Held) → Option Given
given_from held = given_in (map (place_in held) priorities)

abbrev pub standing_in : Option Standing → List Look → List Override
standing_in None later = []
standing_in (Some standing) later = override_by standing.given standing.began later ∷ []

abbrev pub given_of : Option Standing → Option Given
given_of standing = option_map (λ (it : Standing). it.given) standing

-- one begins at a look at which a command gives the value, and none stood
abbrev pub standing_from : Look → Option Standing
standing_from look = option_map (λ given. record { given = given; began = look.last }) look.given

-- whatever later looks show, the overrides are those that ended, the one that stands, and those that begin later
abbrev pub AreKnown : (ended : List Override) → Option Standing → (seen : List Look) → Type 0
AreKnown ended standing seen = (later : List Look)
    → overrides None (seen ++ later) ≡ ended ++ (standing_in standing later ++ overrides (given_of standing) later)

abbrev pub Knows : Watch → List Look → Type 0
Knows watch seen = AreKnown watch.ended.items watch.standing seen

-- the lines of a point at which this was seen
abbrev pub lines_in : Building → Option ℤ → Option ℤ → (Text → List Look) → Text → Text
lines_in building last from seen point =
    flat_map (override_line building last point) (filter (is_asked from) (overrides None (seen point)))

-- each point of the building is watched, and its overrides after deliveries are known
pub record AreWatched (building : Building) (earlier deliveries : List Delivery) (watches : List Watch) : Type 0 where
  pub points : map (λ (watch : Watch). watch.point) watches ≡ map (λ (point : Point). point.name) building.points
  pub known : All (λ (watch : Watch). Knows watch (looks building earlier [] deliveries watch.point)) watches
