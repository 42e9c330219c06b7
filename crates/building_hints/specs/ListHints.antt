-- The hints at a holiday list, as a text.
use Rattle.std.specs.Prelude.{ℕ, ◌==◌, nat_eq, nat_lt, Bool, true, false, ◌&&◌, is_some, List, [], ◌∷◌, ◌++◌, length, codes, decimal, if◌then◌else◌, Option, Some, None, Result, Ok, Err}
use Rattle.std.specs.Option.{option_map_or}
use Rattle.std.specs.Str.{bytes_eq, chars}
use Rattle.strsim.specs.Edits.{levenshtein_row}
use Rattle.csv.specs.Records.{field_at}
use Rattle.points.specs.Steps.{◌>>=◌}
use Rattle.points.specs.Texts.{Text, text_of}
use Rattle.sched.specs.Chosen.{chosen}
use Rattle.sched.specs.declared.calendar.CalendarEntry.{CalendarEntry}
use Rattle.building.specs.BuildingFile.{Contents}
use Rattle.building.specs.declared.named_calendar.NamedCalendar.{NamedCalendar}
use Rattle.building_holidays.specs.CalendarNamed.{calendar_of}
use Rattle.building_holidays.specs.CsvRecords.{Fields, records_of}
use Rattle.building_holidays.specs.HolidayList.{holidays_in}
use Rattle.building_holidays.specs.ImportTexts.{fault_line}
use Rattle.building_holidays.specs.declared.import_fault.ImportFault.{ImportFault}
use Rattle.building_hints.specs.ChangedDays.{changes_text}
use Rattle.building_hints.specs.HintLines.{numbered}
use Rattle.building_hints.specs.declared.separator.Separator.{Separator}
use Rattle.building_hints.specs.declared.separator.Separator.TheVariants.{Comma, Semicolon, Tab, Unknown}

-- ---- the separator

-- the text of a field, where it is UTF-8
unfoldable pub text_at : Fields → ℕ → Option Text
text_at fields index = field_at fields index >>= text_of

abbrev pub is_text_at : Fields → ℕ → Text → Bool
is_text_at fields index text = option_map_or (λ field. bytes_eq field text) (text_at fields index) false

abbrev pub is_alone : Fields → Text → Bool
is_alone fields text = length fields == 1 && is_text_at fields 0 text

abbrev pub is_header : Fields → Bool
is_header fields = length fields == 2 && is_text_at fields 0 (codes "calendar") && is_text_at fields 1 (codes "entry")

-- by the first record, as `csv` reads it at commas
abbrev pub separator_of : Fields → Separator
separator_of fields =
    if is_header fields then Comma
    else (if is_alone fields (codes "calendar;entry") then Semicolon
    else (if is_alone fields (codes "calendar" ++ 9 ∷ codes "entry") then Tab else Unknown))

abbrev pub separator : List Fields → Separator
separator [] = Unknown
separator (header ∷ rows) = separator_of header

abbrev pub separator_line : Separator → Text
separator_line Comma = codes "separator: comma\n"
separator_line Semicolon = codes "separator: semicolon, and import reads commas\n"
separator_line Tab = codes "separator: tab, and import reads commas\n"
separator_line Unknown = codes "separator: unknown, since the header is not calendar,entry\n"

-- ---- calendars that the building lacks

-- how many edits lead from a text to a name
abbrev pub distance : Text → Text → ℕ
distance text name = levenshtein_row nat_eq (chars text) (chars name) (length (chars name))

abbrev pub is_nearer : Text → NamedCalendar → NamedCalendar → Bool
is_nearer text x y = nat_lt (distance text y.name) (distance text x.name)

-- the calendar of the nearest name, of equally near ones the first
abbrev pub nearest : List NamedCalendar → Text → Option NamedCalendar
nearest calendars text = chosen (λ _. true) (is_nearer text) calendars

-- of the nearest so far and the next one
abbrev pub nearer_first : Text → Option NamedCalendar → NamedCalendar → Option NamedCalendar
nearer_first text None next = Some next
nearer_first text (Some best) next = if is_nearer text best next then Some next else Some best

abbrev pub nearest_words : Option NamedCalendar → Text
nearest_words None = []
nearest_words (Some calendar) = codes "; nearest is " ++ calendar.name

abbrev pub unknown_line : List NamedCalendar → ℕ → Text → Text
unknown_line calendars number text =
    codes "record " ++ (decimal number ++ (codes ": no calendar " ++ (text ++ (nearest_words (nearest calendars text) ++ codes "\n"))))

-- a record whose first field is the text of no calendar
abbrev pub unknown_text : List NamedCalendar → ℕ → Option Text → Text
unknown_text calendars number None = []
unknown_text calendars number (Some text) =
    if is_some (calendar_of calendars text) then [] else unknown_line calendars number text

abbrev pub unknown_hint : List NamedCalendar → ℕ → Fields → Text
unknown_hint calendars number fields = unknown_text calendars number (text_at fields 0)

-- ---- the list

-- the days that its import would change, or why it is not imported
abbrev pub outcome : Contents → Result (List CalendarEntry) ImportFault → Text
outcome contents (Ok rows) = changes_text contents.calendars contents.schedules rows
outcome contents (Err fault) = fault_line fault ++ codes "\n"

abbrev pub rows_text : Contents → List Fields → Text
rows_text contents [] = []
rows_text contents (header ∷ rows) = numbered (unknown_hint contents.calendars) 2 rows

-- only a list with commas is read further
abbrev pub further : Contents → List Fields → Separator → Text
further contents fields Comma = rows_text contents fields ++ outcome contents (holidays_in (calendar_of contents.calendars) fields)
further contents fields Semicolon = []
further contents fields Tab = []
further contents fields Unknown = []

abbrev pub list_text : Contents → List ℕ → Text
list_text contents bytes =
    let fields = records_of bytes in separator_line (separator fields) ++ further contents fields (separator fields)
