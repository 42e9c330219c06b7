-- Priorities of a building file.
use Rattle.std.specs.Prelude.{ℕ, Result}
use Rattle.toml.specs.Data.{Data}
use Rattle.building.specs.declared.cause.Cause.TheVariants.{NotAPriority}
use Rattle.building.specs.declared.file_fault.FileFault.{FileFault}
use Rattle.building.specs.declared.key.Key.{Key}
use Rattle.building.specs.declared.location.Location.{Location}
use Rattle.building.specs.FaultAt.{fault_at}
use Rattle.points.specs.FaultSteps.{or_fault, ◌>>=◌}
use Rattle.points.specs.Priority.{event_priority_of, write_priority_of}
use Rattle.building.specs.Fields.{integer_in}

-- B10 where the number is none
abbrev pub write_priority_in : Location → Key → Data → Result ℕ FileFault
write_priority_in location key d =
    integer_in location key d >>= (λ n. or_fault (fault_at location key NotAPriority) (write_priority_of n))

abbrev pub event_priority_in : Location → Key → Data → Result ℕ FileFault
event_priority_in location key d =
    integer_in location key d >>= (λ n. or_fault (fault_at location key NotAPriority) (event_priority_of n))
