-- The lines that tell why a point has its value. Each ends by LF.
use Rattle.std.specs.Prelude.{ℕ, ℤ, List, [], ◌∷◌, ◌++◌, codes, Option, Some, None}
use Rattle.std.specs.Fmt.{decimal, signed_decimal}
use Rattle.std.specs.List.{flat_map}
use Rattle.desk_why.specs.declared.author.Held.{Held}
use Rattle.desk_why.specs.declared.author.Place.{Place}
use Rattle.desk_why.specs.declared.scheduled.ScheduledChange.{ScheduledChange}
use Rattle.building.specs.Building.{Building}
use Rattle.points.specs.Texts.{Text}
use Rattle.points.specs.PointLine.{left_in, point_line, right_in}
use Rattle.points.specs.declared.point.Point.{Point}
use Rattle.sched.specs.TimeText.{time_text}
use Rattle.desk_why.specs.AuthorText.{author_text, source_text}
use Rattle.desk_why.specs.Words.{use_of}

-- a priority in 2 places, what it is kept for in 26, the value in 12, and what put it there
abbrev pub held_line : Building → ℕ → Held → Text
held_line building priority held =
    right_in 2 (decimal priority) ++ (codes "  " ++ (left_in 26 (use_of priority) ++ (right_in 12 (signed_decimal held.value)
    ++ (codes "  " ++ (author_text building held.author ++ 10 ∷ [])))))

-- no line where the place has no value
abbrev pub line_of : Building → ℕ → Option Held → Text
line_of building priority None = []
line_of building priority (Some held) = held_line building priority held

abbrev pub place_line : Building → Place → Text
place_line building place = line_of building place.priority place.held

abbrev pub default_line : ℤ → Text
default_line default = codes "    " ++ (left_in 26 (codes "Relinquish Default") ++ (right_in 12 (signed_decimal default) ++ 10 ∷ []))

abbrev pub value_text : Option ℤ → Text
value_text None = codes "NULL"
value_text (Some value) = signed_decimal value

-- the time of a change in the places of a title, the value from then on in 12, and which schedule gives it, and by what
unfoldable pub next_line : Building → ScheduledChange → Text
next_line building next =
    codes "    " ++ (left_in 26 (codes "Next at " ++ time_text next.change.time) ++ (right_in 12 (value_text next.change.value)
    ++ (codes "  schedule " ++ (next.schedule ++ (codes ", " ++ (source_text building next.change.source ++ 10 ∷ []))))))

-- the line of the point, a line for each place with a value, the relinquish default, and a line for each next change
abbrev pub why_text : Building → Point → ℤ × ℕ → List Place → List ScheduledChange → Text
why_text building point present places next =
    point_line point.name present.0 present.1
    ++ (flat_map (place_line building) places ++ (default_line point.relinquish_default ++ flat_map (next_line building) next))
