-- What commands, ticks and imports do: a command writes a priority array, a tick or import settles schedules.
use Rattle.std.specs.Prelude.{ℕ, ◌==◌, Bool, ◌&&◌, ◌||◌, if◌then◌else◌, List, [], ◌∷◌, ◌++◌, length, slice_get, Option, Some, None, option_and_then, ℤ, pos, negsuc}
use Rattle.std.specs.FinMap.{empty}
use Rattle.std.specs.List.{list_any}
use Rattle.std.specs.Option.{option_map_or}
use Rattle.std.specs.Str.{bytes_eq}
use Rattle.dates.specs.declared.entry.Entry.{Entry}
use Rattle.dates.specs.Entry.{spelling}
use Rattle.points.specs.declared.answer.Answer.{Answer}
use Rattle.points.specs.declared.answer.Answer.TheVariants.{Done, Refused}
use Rattle.points.specs.declared.content.Content.{Content}
use Rattle.points.specs.declared.rule.Rule.{Rule}
use Rattle.points.specs.declared.rule.Rule.TheVariants.{NoSuchPoint}
use Rattle.points.specs.PriorityArray.{Places, put, present_of}
use Rattle.points.specs.Rights.{rule_of, point_named}
use Rattle.building.specs.Building.{Building}
use Rattle.local_times.specs.declared.local_clock.LocalTime.{LocalTime}
use Rattle.local_times.specs.LocalTimes.{local_at}
use Rattle.sched.specs.declared.calendar.CalendarEntry.{CalendarEntry}
use Rattle.building.specs.declared.named_calendar.NamedCalendar.{NamedCalendar}
use Rattle.desk_settling.specs.Calendars.{calendars_of, with_items}
use Rattle.desk_settling.specs.Settled.{Now, Shown, changes_shown, written}
use Rattle.store.specs.declared.change.ImportedEntry.{ImportedEntry}
use Rattle.store.specs.declared.change.PlaceValue.{PlaceValue}
use Rattle.store.specs.declared.change.ShownValue.{ShownValue}
use Rattle.store.specs.Change.{with_each, with_place, with_shown}
use Rattle.points.specs.Texts.{Text}
use Rattle.deliveries.specs.Accepted.{panel_named}

-- a command, a tick or an import that is acted on
pub data Event : Type 0 where
  Command : (panel : Text) → (number : ℕ) → (content : Content) → Event
  Tick : (moment : ℤ) → Event
  Import : (rows : List CalendarEntry) → Event

-- The priority machine: the places of each point, the answer that each command got, what each schedule shows,
-- the texts of the entries that were imported into each calendar, and the moment of the last tick.
pub record Machine : Type 0 where
  pub places : Text → Places
  pub answers : Text → ℕ → Answer
  pub shown : Shown
  pub imported : Text → List Text
  pub last_tick : Option ℤ

-- no place has a value, each schedule is quiet; before its command an answer means nothing
abbrev pub opening_machine : Machine
opening_machine = record {
  places = λ point. empty;
  answers = λ panel number. Refused NoSuchPoint;
  shown = λ schedule. None;
  imported = λ calendar. [];
  last_tick = None;
}

-- the least rule against a panel's content; a panel that the building lacks has no event
abbrev pub rule_for : Building → Text → Content → Option Rule
rule_for building panel content =
    option_map_or (λ found. rule_of building.points found content) (panel_named building panel) (Some NoSuchPoint)

-- the place that a permitted priority names
abbrev pub place_of : ℤ → ℕ
place_of (pos n) = n
place_of (negsuc n) = 0

abbrev pub default_of : Building → Text → ℤ
default_of building point = option_map_or (λ found. found.relinquish_default) (point_named building.points point) (pos 0)

-- what a point's places are after a content
abbrev pub commanded : Places → Content → Places
commanded places content = put places (place_of content.priority) content.value

-- a map with another value at one name
abbrev pub with_name : {A : Type 0} → (Text → A) → Text → A → Text → A
with_name f name value asked = if bytes_eq name asked then value else f asked

abbrev pub places_under : Option Rule → (Text → Places) → Content → Text → Places
places_under (Some rule) places content = places
places_under None places content = with_name places content.point (commanded (places content.point) content)

abbrev pub done_of : ℤ × ℕ → Answer
done_of present = Done present.0 present.1

abbrev pub answer_under : Option Rule → Building → (Text → Places) → Content → Answer
answer_under (Some rule) building places content = Refused rule
answer_under None building places content =
    done_of (present_of (commanded (places content.point) content) (default_of building content.point))

-- the places after a panel's command, and its answer
unfoldable pub places_after : Building → (Text → Places) → Text → Content → Text → Places
places_after building places panel content = places_under (rule_for building panel content) places content

unfoldable pub answer_to : Building → (Text → Places) → Text → Content → Answer
answer_to building places panel content = answer_under (rule_for building panel content) building places content

-- a table of rows with another value at one number of one panel
abbrev pub with_number : {A : Type 0} → (Text → ℕ → A) → Text → ℕ → A → Text → ℕ → A
with_number f panel number value asked_panel asked_number =
    if bytes_eq panel asked_panel && number == asked_number then value else f asked_panel asked_number

-- ---- settling

-- what a schedule's value depends on, at a local day and time
abbrev pub now_of : Building → (Text → List Text) → LocalTime → Now
now_of building imported local = record { calendars = calendars_of building imported; day = local.day; time = local.time }

-- what the schedules write and show at a local day and time; at none, nothing
abbrev pub writes_at : Building → (Text → List Text) → Shown → Option LocalTime → List PlaceValue
writes_at building imported shown None = []
writes_at building imported shown (Some local) = written (now_of building imported local) shown building.schedules

abbrev pub changes_shown_at : Building → (Text → List Text) → Shown → Option LocalTime → List ShownValue
changes_shown_at building imported shown None = []
changes_shown_at building imported shown (Some local) = changes_shown (now_of building imported local) shown building.schedules

-- the machine after the schedules have settled
unfoldable pub settled : Building → Machine → Option LocalTime → Machine
settled building machine local = record {
  places = with_each with_place (writes_at building machine.imported machine.shown local) machine.places;
  answers = machine.answers;
  shown = with_each with_shown (changes_shown_at building machine.imported machine.shown local) machine.shown;
  imported = machine.imported;
  last_tick = machine.last_tick;
}

-- the local day and time at a moment: none without a moment, or where it has none in range
abbrev pub local_of : Building → Option ℤ → Option LocalTime
local_of building moment = option_and_then (local_at building.zone) moment

-- how many values are written
abbrev pub writes_of : Building → Machine → Option ℤ → ℕ
writes_of building machine moment = length (writes_at building machine.imported machine.shown (local_of building moment))

-- ---- imports

-- an equal entry stands in the calendar, from the file or imported
abbrev pub is_known : (Text → List Text) → NamedCalendar → Entry → Bool
is_known imported calendar entry =
    list_any (λ held. bytes_eq (spelling held) (spelling entry)) calendar.calendar.entries
    || list_any (bytes_eq (spelling entry)) (imported calendar.name)

-- a row's item, where its calendar is the building's and does not know it
abbrev pub added_to : (Text → List Text) → Entry → Option NamedCalendar → List ImportedEntry
added_to imported entry None = []
added_to imported entry (Some calendar) =
    if is_known imported calendar entry then [] else record { calendar = calendar.name; entry = entry } ∷ []

abbrev pub added_by : Building → (Text → List Text) → CalendarEntry → List ImportedEntry
added_by building imported row = added_to imported row.entry (slice_get building.calendars row.calendar.index)

-- the items that rows add, each beside those before it
abbrev pub added : Building → (Text → List Text) → List CalendarEntry → List ImportedEntry
added building imported [] = []
added building imported (row ∷ rows) =
    let items = added_by building imported row in items ++ added building (with_items imported items) rows

-- the machine with the rows' items
abbrev pub with_rows : Building → Machine → List CalendarEntry → Machine
with_rows building machine rows = record {
  places = machine.places;
  answers = machine.answers;
  shown = machine.shown;
  imported = with_items machine.imported (added building machine.imported rows);
  last_tick = machine.last_tick;
}

abbrev pub ticked : Machine → ℤ → Machine
ticked machine moment = record {
  places = machine.places;
  answers = machine.answers;
  shown = machine.shown;
  imported = machine.imported;
  last_tick = Some moment;
}

-- ---- one event after another

-- a tick settles at its moment, an import at that of the last tick
abbrev pub step : Building → Machine → Event → Machine
step building machine (Command panel number content) = record {
  places = places_after building machine.places panel content;
  answers = with_number machine.answers panel number (answer_to building machine.places panel content);
  shown = machine.shown;
  imported = machine.imported;
  last_tick = machine.last_tick;
}
step building machine (Tick moment) = ticked (settled building machine (local_of building (Some moment))) moment
step building machine (Import rows) = let now = with_rows building machine rows in settled building now (local_of building now.last_tick)

abbrev pub run : Building → Machine → List Event → Machine
run building machine [] = machine
run building machine (event ∷ events) = run building (step building machine event) events
