-- The fault at a key of a table.
use Rattle.std.specs.Prelude.{Bool, if◌then◌else◌}
use Rattle.building.specs.declared.cause.Cause.{Cause}
use Rattle.building.specs.declared.file_fault.FileFault.{FileFault}
use Rattle.building.specs.declared.key.Key.{Key}
use Rattle.building.specs.declared.key.Key.TheVariants as key
use Rattle.building.specs.declared.location.Location.{Location}

-- a key of an exception is reported as the schedule's key `exception`, but for one that it may not have
abbrev pub reported_key : Bool → Key → Key
reported_key in_exception key.Unknown = key.Unknown
reported_key in_exception other = if in_exception then key.Exception else other

abbrev pub fault_at : Location → Key → Cause → FileFault
fault_at location key cause = record {
  cause = cause;
  section = location.section;
  position = location.position;
  key = reported_key location.in_exception key;
}
