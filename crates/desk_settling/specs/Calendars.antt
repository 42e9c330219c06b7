-- The calendars of a building with the entries that were imported into them. Of an imported entry its text is
-- kept, which reads as that entry and no other.
use Rattle.std.specs.Prelude.{◌≡◌, Bool, List, ◌++◌, map, filter}
use Rattle.std.specs.List.{filter_map, list_any}
use Rattle.std.specs.Result.{result_ok}
use Rattle.std.specs.Str.{bytes_eq}
use Rattle.building.specs.Building.{Building}
use Rattle.dates.specs.declared.entry.Entry.{Entry}
use Rattle.dates.specs.Entry.{reading, spelling}
use Rattle.sched.specs.declared.calendar.Calendar.{Calendar}
use Rattle.building.specs.declared.named_calendar.NamedCalendar.{NamedCalendar}
use Rattle.store.specs.declared.change.ImportedEntry.{ImportedEntry}
use Rattle.points.specs.Texts.{Text}

-- the entries that texts read as
abbrev pub entries_of : List Text → List Entry
entries_of texts = filter_map (λ text. result_ok (reading text)) texts

-- a calendar with the file's entries and the imported ones
abbrev pub with_texts : (Text → List Text) → NamedCalendar → Calendar
with_texts imported named = record { entries = named.calendar.entries ++ entries_of (imported named.name) }

-- the calendars of the building, each at its place
abbrev pub calendars_of : Building → (Text → List Text) → List Calendar
calendars_of building imported = map (with_texts imported) building.calendars

-- the texts of those items that are for a calendar
abbrev pub texts_for : Text → List ImportedEntry → List Text
texts_for calendar items = map (λ item. spelling item.entry) (filter (λ item. bytes_eq item.calendar calendar) items)

-- what is imported after some items more
abbrev pub with_items : (Text → List Text) → List ImportedEntry → Text → List Text
with_items imported items calendar = imported calendar ++ texts_for calendar items

-- a table tells of each text whether it is imported
abbrev pub Tells : (Text → Text → Bool) → (Text → List Text) → Type 0
Tells table imported = (calendar text : Text) → table calendar text ≡ list_any (bytes_eq text) (imported calendar)
