-- Where the tables of a database differ from those of a record, at the names of a building.
use Rattle.std.specs.Prelude.{◌≡◌, ℕ, ℤ, ◌+◌, ◌-◌, Bool, true, false, ◌&&◌, ◌==◌, min, max, List, ◌++◌, map, Option, Some, None}
use Rattle.std.specs.FinMap.{get}
use Rattle.std.specs.List.{AllZip, flat_map, list_any, range_with_len, slice_get}
use Rattle.std.specs.Option.{option_eq}
use Rattle.std.specs.Ordering.{int_eq}
use Rattle.std.specs.Str.{bytes_eq}
use Rattle.building.specs.Building.{Building}
use Rattle.building.specs.declared.named_calendar.NamedCalendar.{NamedCalendar}
use Rattle.building.specs.declared.named_schedule.NamedSchedule.{NamedSchedule}
use Rattle.dates.specs.declared.entry.Entry.{Entry}
use Rattle.dates.specs.Entry.{spelling}
use Rattle.points.specs.declared.numbered_row.TheConstants.{LAST_NUMBER}
use Rattle.points.specs.declared.answer.Answer.{Answer}
use Rattle.points.specs.declared.answer.Answer.TheVariants.{Done, Refused}
use Rattle.points.specs.declared.command_row.CommandRow.{CommandRow}
use Rattle.points.specs.declared.command_row.CommandState.{CommandState}
use Rattle.points.specs.declared.command_row.CommandState.TheVariants.{Parked, Answered}
use Rattle.points.specs.declared.panel.Panel.{Panel}
use Rattle.points.specs.declared.point.Point.{Point}
use Rattle.points.specs.ContentEq.{content_eq}
use Rattle.points.specs.PriorityArray.{Places}
use Rattle.points.specs.RuleCode.{code_of}
use Rattle.points.specs.Run.{Rows}
use Rattle.store.specs.Listed.{AreEntries}
use Rattle.store.specs.Tables.{Tables}
use Rattle.points.specs.Texts.{Text}
use Rattle.cli_record.specs.declared.difference.Difference.{Difference}
use Rattle.cli_record.specs.declared.difference.Difference.TheVariants.{Command, LastTick, NextNumber, NotRecorded, Place, RecordedAlone, Shown}
use Rattle.cli_record.specs.Unless.{unless}

-- ---- panels

-- each rule has a code of its own
abbrev pub same_answer : Answer → Answer → Bool
same_answer (Done present priority) (Done other at) = int_eq present other && priority == at
same_answer (Done present priority) (Refused rule) = false
same_answer (Refused rule) (Done present priority) = false
same_answer (Refused rule) (Refused other) = bytes_eq (code_of rule) (code_of other)

abbrev pub same_state : CommandState → CommandState → Bool
same_state Parked Parked = true
same_state Parked (Answered answer) = false
same_state (Answered answer) Parked = false
same_state (Answered answer) (Answered other) = same_answer answer other

abbrev pub same_row : Option CommandRow → Option CommandRow → Bool
same_row None None = true
same_row None (Some row) = false
same_row (Some row) None = false
same_row (Some row) (Some other) = content_eq row.content other.content && same_state row.state other.state

-- the numbers that a panel with this next number may still repeat or use: from the first, without the end
abbrev pub first_number : ℕ → ℕ
first_number next = next - 1000

abbrev pub end_number : ℕ → ℕ
end_number next = min (next + 64) (LAST_NUMBER + 1)

abbrev pub between : ℕ → ℕ → List ℕ
between from end = range_with_len from (end - from)

-- those of the lesser next number, and then those of the greater that are not among them
abbrev pub numbers_of : ℕ → ℕ → List ℕ
numbers_of lesser greater = between (first_number lesser) (end_number lesser)
    ++ between (max (first_number greater) (end_number lesser)) (end_number greater)

abbrev pub of_next : Text → ℕ → ℕ → List Difference
of_next panel held recorded = unless (held == recorded) (NextNumber panel held recorded)

abbrev pub of_command : Text → Rows → Rows → ℕ → List Difference
of_command panel held recorded number = unless (same_row (held number) (recorded number)) (Command panel number)

abbrev pub of_panel : Tables → Tables → Panel → List Difference
of_panel held recorded panel =
    let ours = held.next panel.name in
    let theirs = recorded.next panel.name in
    of_next panel.name ours theirs
    ++ flat_map (of_command panel.name (held.row panel.name) (recorded.row panel.name)) (numbers_of (min ours theirs) (max ours theirs))

-- ---- points

abbrev pub same_value : Option ℤ → Option ℤ → Bool
same_value held recorded = option_eq int_eq held recorded

abbrev pub of_value : Text → ℕ → Option ℤ → Option ℤ → List Difference
of_value point priority held recorded = unless (same_value held recorded) (Place point priority held recorded)

-- of the places of a point, from 1 to 16
abbrev pub of_places : Text → Places → Places → List Difference
of_places point held recorded =
    flat_map (λ priority. of_value point priority (get held priority) (get recorded priority)) (range_with_len 1 16)

abbrev pub of_point : Tables → Tables → Point → List Difference
of_point held recorded point = of_places point.name (held.places point.name) (recorded.places point.name)

-- the first place, in the order of the building's file, where points differ
abbrev pub first_place : Building → Tables → Tables → Option Difference
first_place building held recorded = slice_get (flat_map (of_point held recorded) building.points) 0

-- ---- schedules

abbrev pub same_shown : Option (Option ℤ) → Option (Option ℤ) → Bool
same_shown held recorded = option_eq same_value held recorded

abbrev pub of_schedule : Tables → Tables → NamedSchedule → List Difference
of_schedule held recorded schedule =
    unless (same_shown (held.shown schedule.name) (recorded.shown schedule.name)) (Shown schedule.name)

-- ---- calendars

-- the entry is one of these
abbrev pub is_among : List Entry → Entry → Bool
is_among entries entry = list_any (bytes_eq (spelling entry)) (map spelling entries)

-- of entries of one side and of the other
abbrev pub of_entries : Text → List Entry → List Entry → List Difference
of_entries calendar held recorded = flat_map (λ entry. unless (is_among recorded entry) (NotRecorded calendar entry)) held
    ++ flat_map (λ entry. unless (is_among held entry) (RecordedAlone calendar entry)) recorded

-- of a calendar: those of the database first, and then those of the record, each in the order of the texts
pub record OfCalendar (held recorded : Tables) (calendar : NamedCalendar) (found : List Difference) : Type 0 where
  pub ours : List Entry
  pub theirs : List Entry
  pub are_ours : AreEntries held calendar.name ours
  pub are_theirs : AreEntries recorded calendar.name theirs
  pub found_is : found ≡ of_entries calendar.name ours theirs

-- of calendars, one after the other
abbrev pub OfCalendars : Tables → Tables → List NamedCalendar → List Difference → Type 0
OfCalendars held recorded calendars found = (parts : List (List Difference))
    × AllZip (OfCalendar held recorded) calendars parts × (found ≡ flat_map (λ part. part) parts)

-- ---- all tables

abbrev pub of_last_tick : Option ℤ → Option ℤ → List Difference
of_last_tick held recorded = unless (same_value held recorded) (LastTick held recorded)

-- panels, points, schedules and calendars in the order of the file, and the last tick
abbrev pub AreDifferences : Building → Tables → Tables → List Difference → Type 0
AreDifferences building held recorded found = (of_calendars : List Difference)
    × OfCalendars held recorded building.calendars of_calendars
    × (found ≡ flat_map (of_panel held recorded) building.panels ++ (flat_map (of_point held recorded) building.points
    ++ (flat_map (of_schedule held recorded) building.schedules
    ++ (of_calendars ++ of_last_tick held.last_tick recorded.last_tick))))
