-- The panel that a `[[panel]]` table names, beside the points of the building.
use Rattle.std.specs.Prelude.{ℕ, Bool, ◌&&◌, List, [], Result, Ok}
use Rattle.std.specs.List.{list_all}
use Rattle.toml.specs.Data.{Members}
use Rattle.building.specs.declared.file_fault.FileFault.{FileFault}
use Rattle.building.specs.declared.key.Key.TheVariants as key
use Rattle.building.specs.declared.location.Location.{Location}
use Rattle.points.specs.FaultSteps.{◌>>=◌}
use Rattle.building.specs.Reference.{each_reference, is_named}
use Rattle.points.specs.declared.Panel.{Panel}
use Rattle.points.specs.declared.Point.{Point}
use Rattle.building.specs.Fields.{list_at}
use Rattle.building.specs.Items.{each_item}
use Rattle.building.specs.Priority.{write_priority_in}
use Rattle.points.specs.Priority.{is_write_priority}

-- the panel of a name: the points that are granted to it, each once, and the priorities
unfoldable pub panel_in : List Point → Location → List ℕ → Members → Result Panel FileFault
panel_in points location name ms = do
  granted ← list_at location key.Points ms
  names ← each_reference location key.Points (λ point. point.name) points [] granted
  listed ← list_at location key.Priorities ms
  priorities ← each_item (write_priority_in location key.Priorities) listed
  Ok (record { name = name; points = names; priorities = priorities })

-- what holds of a panel that was read: its points exist, and no priority is 6
abbrev pub is_sound_panel : List Point → Panel → Bool
is_sound_panel points panel =
    list_all (is_named (λ (point : Point). point.name) points) panel.points && list_all is_write_priority panel.priorities
