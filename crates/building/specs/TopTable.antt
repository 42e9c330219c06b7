-- The top table of a building file.
use Rattle.std.specs.Prelude.{ℕ, List, [], ◌∷◌, Option, Some, None, option_map, Result, Ok}
use Rattle.jiff_tz.specs.PosixReader.{read_whole}
use Rattle.jiff_tz.specs.PosixText.{TzText}
use Rattle.toml.specs.Data.{Items, no_items, Members}
use Rattle.toml.specs.View.{items_view}
use Rattle.building.specs.declared.cause.Cause.TheVariants.{NotAZoneRule}
use Rattle.building.specs.declared.file_fault.FileFault.{FileFault}
use Rattle.building.specs.declared.key.Key.{Key}
use Rattle.building.specs.declared.key.Key.TheVariants as key
use Rattle.building.specs.declared.location.Location.{Location}
use Rattle.building.specs.declared.section.Section.TheVariants as section
use Rattle.building.specs.FaultAt.{fault_at}
use Rattle.points.specs.FaultSteps.{or_fault, ◌>>=◌}
use Rattle.building.specs.declared.top_table.TopTable.{TopTable}
use Rattle.building.specs.Fields.{known_keys, optional_list_at, text_at}
use Rattle.building.specs.Items.{all_tables, at_most}
use Rattle.local_times.specs.ZoneRule.{rule_text}
use Rattle.std.specs.Prelude.{false}

-- what the top table says: what the zone's rule says, and the tables of each section
pub record Top : Type 0 where
  pub zone : Option TzText
  pub points : Items
  pub panels : Items
  pub calendars : Items
  pub schedules : Items

abbrev pub top_of : TopTable → Top
top_of top = record {
  zone = rule_text top.zone;
  points = items_view top.points.now;
  panels = items_view top.panels.now;
  calendars = items_view top.calendars.now;
  schedules = items_view top.schedules.now;
}

-- the top table stands at position 0
abbrev pub top_location : Location
top_location = record { section = section.Top; position = 0; in_exception = false }

abbrev pub top_keys : List Key
top_keys = key.Zone ∷ key.Point ∷ key.Panel ∷ key.Calendar ∷ key.Schedule ∷ []

-- what the zone's rule says: B3, B4, and B12 where the text is no rule
abbrev pub zone_at : Location → Members → Result (Option TzText) FileFault
zone_at location ms = text_at location key.Zone ms
    >>= (λ text. or_fault (fault_at location key.Zone NotAZoneRule) (option_map Some (read_whole text)))

-- at most so many items, all of them tables
abbrev pub section_of : ℕ → Location → Key → Items → Result Items FileFault
section_of most location key items = do
  few ← at_most most location key items
  tables ← all_tables location key items
  Ok items

abbrev pub section_or_none : ℕ → Location → Key → Option Items → Result Items FileFault
section_or_none most location key None = Ok no_items
section_or_none most location key (Some items) = section_of most location key items

-- the tables of a section: none where its key is missing
abbrev pub section_at : ℕ → Location → Key → Members → Result Items FileFault
section_at most location key ms = optional_list_at location key ms >>= section_or_none most location key

unfoldable pub top_in : Members → Result Top FileFault
top_in ms = do
  allowed ← known_keys top_location top_keys ms
  zone ← zone_at top_location ms
  points ← section_at 1_000 top_location key.Point ms
  panels ← section_at 200 top_location key.Panel ms
  calendars ← section_at 100 top_location key.Calendar ms
  schedules ← section_at 500 top_location key.Schedule ms
  Ok (record { zone = zone; points = points; panels = panels; calendars = calendars; schedules = schedules })
