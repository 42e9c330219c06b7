-- The calendar that a `[[calendar]]` table names.
use Rattle.std.specs.Prelude.{ℕ, List, Result, Ok}
use Rattle.toml.specs.Data.{Members}
use Rattle.building.specs.declared.file_fault.FileFault.{FileFault}
use Rattle.building.specs.declared.key.Key.TheVariants as key
use Rattle.building.specs.declared.location.Location.{Location}
use Rattle.points.specs.FaultSteps.{◌>>=◌}
use Rattle.building.specs.declared.named_calendar.NamedCalendar.{NamedCalendar}
use Rattle.building.specs.EntryText.{entry_in}
use Rattle.building.specs.Fields.{list_at}
use Rattle.building.specs.Items.{at_most, each_item}

-- the calendar of a name: at most 1,000 entries
unfoldable pub calendar_in : Location → List ℕ → Members → Result NamedCalendar FileFault
calendar_in location name ms = do
  listed ← list_at location key.Entries ms
  few ← at_most 1_000 location key.Entries listed
  entries ← each_item (entry_in location key.Entries) listed
  Ok (record { name = name; calendar = record { entries = entries } })
