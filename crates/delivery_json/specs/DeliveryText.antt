-- The text of a delivery as a line of a list: one JSON object, compact, its keys in byte order, and the line end (LF).
use Rattle.std.specs.Prelude.{ℕ, ℤ, List, [], ◌++◌, Option, Some, None, codes, slice_get}
use Rattle.std.specs.Fmt.{signed_decimal}
use Rattle.std.specs.List.{flat_map}
use Rattle.building.specs.Building.{Building}
use Rattle.building.specs.declared.named_calendar.NamedCalendar.{NamedCalendar}
use Rattle.dates.specs.declared.entry.Entry.{Entry}
use Rattle.dates.specs.Entry.{spelling}
use Rattle.deliveries.specs.declared.delivery.Delivery.{Delivery}
use Rattle.deliveries.specs.declared.delivery.Delivery.TheVariants.{Command, Import, Skip, Tick}
use Rattle.points.specs.declared.content.Content.{Content}
use Rattle.sched.specs.declared.calendar.CalendarEntry.{CalendarEntry}

-- a number, or null for NULL
abbrev pub value_text : Option ℤ → List ℕ
value_text None = codes "null"
value_text (Some value) = signed_decimal value

-- the members of a command's content, with its priority in any case
unfoldable pub content_text : Content → List ℕ
content_text content = codes "\"point\":\"" ++ (content.point ++ (codes "\",\"priority\":"
    ++ (signed_decimal content.priority ++ (codes ",\"value\":" ++ value_text content.value))))

unfoldable pub command_line : List ℕ → ℤ → Content → List ℕ
command_line panel number content = codes "{\"number\":" ++ (signed_decimal number
    ++ (codes ",\"panel\":\"" ++ (panel ++ (codes "\"," ++ (content_text content ++ codes "}\n")))))

-- the row of a holiday list, whose line end JSON writes as a backslash and an n; none where there is no calendar
abbrev pub row_with : Option NamedCalendar → Entry → List ℕ
row_with None entry = []
row_with (Some calendar) entry = calendar.name ++ (codes "," ++ (spelling entry ++ codes "\\n"))

-- by the name of the building's calendar at the row's place
abbrev pub row_text : Building → CalendarEntry → List ℕ
row_text building row = row_with (slice_get building.calendars row.calendar.index) row.entry

-- an import, as a holiday list
abbrev pub import_line : Building → List CalendarEntry → List ℕ
import_line building rows =
    codes "{\"import\":\"calendar,entry\\n" ++ (flat_map (row_text building) rows ++ codes "\"}\n")

abbrev pub delivery_line : Building → Delivery → List ℕ
delivery_line building (Command panel number content) = command_line panel number content
delivery_line building (Skip panel upto) =
    codes "{\"panel\":\"" ++ (panel ++ (codes "\",\"skip\":" ++ (signed_decimal upto ++ codes "}\n")))
delivery_line building (Tick moment) = codes "{\"tick\":" ++ (signed_decimal moment ++ codes "}\n")
delivery_line building (Import rows) = import_line building rows
