-- What a follower holds, as JSON: the keys of an object in the order of the alphabet, and no spaces.
use Rattle.std.specs.Prelude.{ℕ, ℤ, List, map, ◌++◌, codes, Option, Some, None, option_map}
use Rattle.std.specs.Fmt.{decimal, signed_decimal}
use Rattle.std.specs.List.{filter_map, join_with_byte}
use Rattle.building.specs.Building.{Building}
use Rattle.desk_why.specs.declared.author.Author.{Author}
use Rattle.desk_why.specs.declared.author.Author.TheVariants as by
use Rattle.desk_why.specs.declared.author.Held.{Held}
use Rattle.desk_why.specs.declared.author.Place.{Place}
use Rattle.desk_why.specs.declared.author.Settling.TheVariants as at
use Rattle.desk_why.specs.declared.scheduled.ScheduledChange.{ScheduledChange}
use Rattle.desk_why.specs.AuthorText.{author_text, source_text}
use Rattle.points.specs.Texts.{Text}
use Rattle.points.specs.declared.point.Point.{Point}
use Rattle.sched.specs.TimeText.{time_text}

-- ---- parts

-- texts, with a comma between each two
abbrev pub divided : List Text → Text
divided texts = join_with_byte 44 texts

-- a value, or a moment in hundredths of a second since 1970-01-01T00:00:00Z
abbrev pub number_text : Option ℤ → Text
number_text None = codes "null"
number_text (Some number) = signed_decimal number

-- since when a value stands in its place: the tick at which a schedule put it there, or the last tick before a command or
-- an import did
abbrev pub since_of : Author → Option ℤ
since_of (by.Command panel number after) = after
since_of (by.Schedule schedule source (at.Tick moment)) = Some moment
since_of (by.Schedule schedule source (at.Import last)) = Some last
since_of by.BeforeRecord = None

-- a point's name, what it presents, and the priority of the place that gives it
abbrev pub present_text : Text → ℤ × ℕ → Text
present_text point present =
    codes "\"point\":\"" ++ (point
    ++ (codes "\",\"present\":" ++ (signed_decimal present.0
    ++ (codes ",\"priority\":" ++ decimal present.1))))

-- ---- why a point has its value

-- a place that holds a value
unfoldable pub held_view : Building → ℕ → Held → Text
held_view building priority held =
    codes "{\"by\":\"" ++ (author_text building held.author
    ++ (codes "\",\"priority\":" ++ (decimal priority
    ++ (codes ",\"since\":" ++ (number_text (since_of held.author)
    ++ (codes ",\"value\":" ++ (signed_decimal held.value ++ codes "}")))))))

-- nothing of one that holds none
abbrev pub place_view : Building → Place → Option Text
place_view building place = option_map (held_view building place.priority) place.held

-- a next change
unfoldable pub change_view : Building → ScheduledChange → Text
change_view building next =
    codes "{\"at\":\"" ++ (time_text next.change.time
    ++ (codes "\",\"by\":\"" ++ (source_text building next.change.source
    ++ (codes "\",\"schedule\":\"" ++ (next.schedule
    ++ (codes "\",\"value\":" ++ (number_text next.change.value ++ codes "}")))))))

-- the next changes, the places that hold a value, what the point presents, and its relinquish default
abbrev pub why_view : Building → Point → ℤ × ℕ → List Place → List ScheduledChange → Text
why_view building point present places next =
    codes "{\"answer\":\"why\",\"next\":[" ++ (divided (map (change_view building) next)
    ++ (codes "],\"places\":[" ++ (divided (filter_map (place_view building) places)
    ++ (codes "]," ++ (present_text point.name present
    ++ (codes ",\"relinquish_default\":" ++ (signed_decimal point.relinquish_default ++ codes "}")))))))

-- ---- a point in the list of all points

-- what gives its value, and since when; none where that is the relinquish default
abbrev pub by_text : Building → Option Held → Text
by_text building None = codes "null"
by_text building (Some held) = codes "\"" ++ (author_text building held.author ++ codes "\"")

abbrev pub since_held : Option Held → Option ℤ
since_held None = None
since_held (Some held) = since_of held.author

abbrev pub point_view : Building → Text → ℤ → ℕ → Option Held → Text
point_view building point present priority held =
    codes "{\"by\":" ++ (by_text building held
    ++ (codes "," ++ (present_text point (present, priority)
    ++ (codes ",\"since\":" ++ (number_text (since_held held) ++ codes "}")))))

-- ---- the record

-- how many deliveries, and the last tick
abbrev pub record_view : ℕ → Option ℤ → Text
record_view deliveries last =
    codes "{\"answer\":\"record\",\"deliveries\":" ++ (decimal deliveries
    ++ (codes ",\"last_tick\":" ++ (number_text last ++ codes "}")))
