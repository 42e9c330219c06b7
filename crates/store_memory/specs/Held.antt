-- What the tables in memory hold. An entry may hold nothing, and is then room for what is to come.
use Rattle.std.specs.Prelude.{◌≡◌, ℕ, ◌==◌, Bool, not, ◌||◌, Option, Some, None, IsSome, is_some, unwrap_or, ℤ}
use Rattle.std.specs.BTreeMap.{get}
use Rattle.std.specs.HashMap as hash
use Rattle.std.specs.Cmp.Lexicographic.{slice_cmp}
use Rattle.std.specs.FinMap.{empty, len}
use Rattle.std.specs.Ordering.{nat_cmp}
use Rattle.std.specs.Str.{bytes_eq}
use Rattle.dates.specs.declared.entry.Entry.{Entry}
use Rattle.points.specs.declared.command_row.CommandRow.{CommandRow}
use Rattle.points.specs.PriorityArray.{Places}
use Rattle.points.specs.Run.{Rows}
use Rattle.store_memory.specs.declared.arrays.Arrays.{Arrays}
use Rattle.store_memory.specs.declared.calendar_table.CalendarTable.{CalendarTable}
use Rattle.store_memory.specs.declared.calendars.Calendars.{Calendars}
use Rattle.store_memory.specs.declared.panel_table.PanelTable.{PanelTable}
use Rattle.store_memory.specs.declared.panels.Panels.{Panels}
use Rattle.store_memory.specs.declared.shown_values.ShownValues.{ShownValues}
use Rattle.store_memory.specs.RowSlots.{has_row, slot_for}
use Rattle.store_memory.specs.Slots.{flatten, entry_slot, has_entries}
use Rattle.points.specs.Texts.{Text}

-- ---- panels

-- the slot of a number, if there is one: its row, or room for that
abbrev pub slot_at : PanelTable → ℕ → Option (Option CommandRow)
slot_at table number = slot_for table.rows number

abbrev pub kept_rows : PanelTable → Rows
kept_rows table number = flatten (slot_at table number)

-- whether anything is kept of a panel
abbrev pub stands_panel : PanelTable → Bool
stands_panel table = not (table.next == 1) || has_row table.rows

abbrev pub table_at : Panels → Text → Option PanelTable
table_at panels panel = hash.get bytes_eq panels.tables panel

abbrev pub next_in : Option PanelTable → ℕ
next_in None = 1
next_in (Some table) = table.next

abbrev pub slot_in : Option PanelTable → ℕ → Option (Option CommandRow)
slot_in None number = None
slot_in (Some table) number = slot_at table number

abbrev pub next_of : Panels → Text → ℕ
next_of panels panel = next_in (table_at panels panel)

abbrev pub slot_of : Panels → Text → ℕ → Option (Option CommandRow)
slot_of panels panel number = slot_in (table_at panels panel) number

abbrev pub row_of : Panels → Text → Rows
row_of panels panel number = flatten (slot_of panels panel number)

-- what there is room for stays
pub record KeepsRoom (old new : Panels) : Type 0 where
  pub tables : (panel : Text) → IsSome (table_at old panel) → IsSome (table_at new panel)
  pub slots : (panel : Text) (number : ℕ) → IsSome (slot_of old panel number) → IsSome (slot_of new panel number)

-- there is more room, and the same is kept
pub record Grows (old new : Panels) : Type 0 where
  pub room : KeepsRoom old new
  pub next : (panel : Text) → next_of new panel ≡ next_of old panel
  pub rows : (panel : Text) (number : ℕ) → row_of new panel number ≡ row_of old panel number

-- ---- points

abbrev pub stands_point : Places → Bool
stands_point places = not (len places == 0)

abbrev pub array_at : Arrays → Text → Option Places
array_at arrays point = hash.get bytes_eq arrays.arrays point

abbrev pub places_of : Arrays → Text → Places
places_of arrays point = unwrap_or (array_at arrays point) empty

-- ---- schedules

abbrev pub shown_slot : ShownValues → Text → Option (Option (Option ℤ))
shown_slot values schedule = hash.get bytes_eq values.values schedule

abbrev pub shown_of : ShownValues → Text → Option (Option ℤ)
shown_of values schedule = flatten (shown_slot values schedule)

-- ---- calendars

abbrev pub stands_calendar : CalendarTable → Bool
stands_calendar table = has_entries table.entries

abbrev pub calendar_at : Calendars → Text → Option CalendarTable
calendar_at calendars calendar = get (slice_cmp nat_cmp) calendars.tables calendar

abbrev pub text_slot : Option CalendarTable → Text → Option (Option Entry)
text_slot None text = None
text_slot (Some table) text = entry_slot table.entries text

abbrev pub calendar_slot : Calendars → Text → Text → Option (Option Entry)
calendar_slot calendars calendar text = text_slot (calendar_at calendars calendar) text

abbrev pub imported_of : Calendars → Text → Text → Bool
imported_of calendars calendar text = is_some (flatten (calendar_slot calendars calendar text))
