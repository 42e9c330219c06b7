-- The tick or the import that an object tells.
use Rattle.std.specs.Prelude.{ℕ, List, [], ◌∷◌, Option, codes, option_map, Result, Ok, Err}
use Rattle.serde_json.specs.Data.{Data}
use Rattle.serde_json.specs.Find.{as_object, as_str, get}
use Rattle.building.specs.Building.{Building}
use Rattle.building_holidays.specs.CsvRecords.{records_of}
use Rattle.deliveries.specs.declared.delivery.Delivery.{Delivery}
use Rattle.deliveries.specs.declared.delivery.Delivery.TheVariants.{Import, Tick}
use Rattle.delivery_json.specs.declared.parsed_line.ParsedLine.{ParsedLine}
use Rattle.delivery_json.specs.declared.parsed_line.ParsedLine.TheVariants as parsed
use Rattle.delivery_json.specs.Members.{has_only, lone_integer}
use Rattle.building_holidays.specs.CalendarNamed.{calendar_of}
use Rattle.building_holidays.specs.HolidayList.{holidays_in}
use Rattle.building_holidays.specs.declared.import_fault.ImportFault.{ImportFault}
use Rattle.sched.specs.declared.calendar.CalendarEntry.{CalendarEntry}
use Rattle.points.specs.Steps.{◌>>=◌, where_holds}

-- the tick that an object tells
unfoldable pub tick_in : Data → Option Delivery
tick_in value = option_map Tick (lone_integer (codes "tick") value)

-- the text of the holiday list that an object tells
unfoldable pub list_in : Data → Option (List ℕ)
list_in value = do
  members ← as_object value
  text ← get (codes "import") value >>= as_str
  where_holds (has_only (codes "import" ∷ []) members) text

abbrev pub import_with : Result (List CalendarEntry) ImportFault → ParsedLine
import_with (Ok rows) = parsed.Delivery (Import rows)
import_with (Err fault) = parsed.RefusedImport fault

-- the import of a holiday list's rows, for the calendars of a building; or the fault of the list
unfoldable pub import_of : Building → List ℕ → ParsedLine
import_of building list = import_with (holidays_in (calendar_of building.calendars) (records_of list))

-- what an object with a holiday list tells
unfoldable pub import_in : Building → Data → Option ParsedLine
import_in building value = option_map (import_of building) (list_in value)
