-- The lines of overrides. Each ends by LF.
use Rattle.std.specs.Prelude.{ℕ, ℤ, ◌-ℤ◌, ◌/◌, ◌%◌, Bool, true, false, unsigned_abs, int_lt, List, [], ◌∷◌, ◌++◌, codes, Option, Some, None, if◌then◌else◌}
use Rattle.std.specs.Fmt.{decimal, signed_decimal}
use Rattle.std.specs.List.{filter, flat_map}
use Rattle.building.specs.Building.{Building}
use Rattle.dates.specs.Notation.{two_digit_text}
use Rattle.deliveries.specs.declared.delivery.Delivery.{Delivery}
use Rattle.deliveries.specs.Events.{machine}
use Rattle.desk_why.specs.AuthorText.{moment_text}
use Rattle.points.specs.declared.point.Point.{Point}
use Rattle.points.specs.PointLine.{left_in, right_in}
use Rattle.points.specs.Texts.{Text}
use Rattle.desk_overrides.specs.declared.overriding.Ended.{Ended}
use Rattle.desk_overrides.specs.declared.overriding.Given.{Given}
use Rattle.desk_overrides.specs.declared.overriding.Override.{Override}
use Rattle.desk_overrides.specs.Overrides.{overrides_of}

-- ---- when it was

abbrev pub last_text : Building → Option ℤ → Text
last_text building None = codes "before any tick"
last_text building (Some moment) = moment_text building moment

-- whole hours, and minutes
abbrev pub hours_text : ℕ → Text
hours_text hundredths = codes ", " ++ (decimal (hundredths / 360_000) ++ (codes " h "
    ++ (two_digit_text (hundredths / 6_000 % 60) ++ codes " min")))

-- how long, where both moments are known
abbrev pub length_text : Option ℤ → Option ℤ → Text
length_text None end = []
length_text (Some from) None = []
length_text (Some from) (Some to) = hours_text (unsigned_abs (to -ℤ from))

abbrev pub times_text : Building → Option ℤ → Option ℤ → Option Ended → Text
times_text building last began None = codes "since " ++ (last_text building began ++ length_text began last)
times_text building last began (Some ended) =
    codes "from " ++ (last_text building began ++ (codes " to " ++ (last_text building ended.last ++ length_text began ended.last)))

-- ---- the line

-- the point, its value and the priority as in a `POINT` line, and the command
abbrev pub given_text : Text → Given → Text
given_text point given = left_in 32 point ++ (right_in 12 (signed_decimal given.value) ++ (32 ∷ (right_in 2 (decimal given.priority)
    ++ (codes "  panel " ++ (given.panel ++ (codes " #" ++ decimal given.number))))))

unfoldable pub override_line : Building → Option ℤ → Text → Override → Text
override_line building last point override =
    given_text point override.given ++ (codes ", " ++ (times_text building last override.began override.ended ++ 10 ∷ []))

-- ---- which are printed

-- whether it ended after a moment, or stands
abbrev pub is_later : ℤ → Option ℤ → Bool
is_later from None = false
is_later from (Some last) = int_lt from last

abbrev pub reaches : ℤ → Option Ended → Bool
reaches from None = true
reaches from (Some ended) = is_later from ended.last

abbrev pub is_asked : Option ℤ → Override → Bool
is_asked None override = true
is_asked (Some from) override = reaches from override.ended

-- those of a point that a user asks for
abbrev pub point_text : Building → (earlier deliveries : List Delivery) → Option ℤ → Point → Text
point_text building earlier deliveries from point = flat_map
    (override_line building (machine building (earlier ++ deliveries)).last_tick point.name)
    (filter (is_asked from) (overrides_of building earlier deliveries point.name))

-- point after point
abbrev pub overrides_text : Building → (earlier deliveries : List Delivery) → Option ℤ → Text
overrides_text building earlier deliveries from = flat_map (point_text building earlier deliveries from) building.points
