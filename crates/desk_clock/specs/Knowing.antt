-- What the calendars that an import names know.
use Rattle.std.specs.Prelude.{◌≡◌, ◌&&◌, ◌||◌, Bool, List, is_some, map}
use Rattle.std.specs.BTreeMap.{get}
use Rattle.std.specs.Cmp.Lexicographic.{slice_cmp}
use Rattle.std.specs.List.{list_any}
use Rattle.std.specs.Ordering.{nat_cmp}
use Rattle.std.specs.Str.{bytes_eq}
use Rattle.building.specs.Building.{Building}
use Rattle.building.specs.declared.named_calendar.NamedCalendar.{NamedCalendar}
use Rattle.desk_clock.specs.declared.known.Known.{Known}
use Rattle.dates.specs.Entry.{spelling}
use Rattle.store_memory.specs.Held.{imported_of}
use Rattle.desk_settling.specs.Calendars.{texts_for}
use Rattle.store.specs.declared.change.ImportedEntry.{ImportedEntry}
use Rattle.points.specs.Texts.{Text}

-- the calendar has an entry of this text in the file
abbrev pub has_in_file : NamedCalendar → Text → Bool
has_in_file calendar text = list_any (bytes_eq text) (map spelling calendar.calendar.entries)

-- a calendar of this name has an entry of this text in the file
abbrev pub in_file : Building → Text → Text → Bool
in_file building name text = list_any (λ calendar. bytes_eq calendar.name name && has_in_file calendar text) building.calendars

abbrev pub is_read : Known → Text → Bool
is_read known name = is_some (get (slice_cmp nat_cmp) known.read name)

-- of a calendar that was read what the file and the table have, and of each what the items add
abbrev pub Knows : Known → Building → (Text → Text → Bool) → List ImportedEntry → Type 0
Knows known building table items =
    (name text : Text)
    → imported_of known.texts name text
    ≡ ((is_read known name && (in_file building name text || table name text)) || list_any (bytes_eq text) (texts_for name items))
