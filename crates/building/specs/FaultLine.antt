-- The line of a fault.
use Rattle.std.specs.Prelude.{ℕ, List, ◌++◌, codes, decimal}
use Rattle.dates.specs.EntryFault.{fault_text}
use Rattle.building.specs.declared.cause.Cause.{Cause}
use Rattle.building.specs.declared.cause.Cause.TheVariants as cause
use Rattle.building.specs.declared.file_fault.FileFault.{FileFault}
use Rattle.building.specs.declared.key.Key.{Key}
use Rattle.building.specs.declared.key.Key.TheVariants as key
use Rattle.building.specs.declared.section.Section.{Section}
use Rattle.building.specs.declared.section.Section.TheVariants as section

-- the number of a fault, and that of the entry's after it
abbrev pub cause_text : Cause → List ℕ
cause_text cause.NotToml = codes "B1"
cause_text cause.UnknownKey = codes "B2"
cause_text cause.MissingKey = codes "B3"
cause_text cause.WrongType = codes "B4"
cause_text cause.NotAName = codes "B5"
cause_text cause.RepeatedName = codes "B6"
cause_text cause.UnknownName = codes "B7"
cause_text (cause.NotAnEntry fault) = codes "B8 " ++ fault_text fault
cause_text cause.NotATimeValue = codes "B9"
cause_text cause.NotAPriority = codes "B10"
cause_text cause.OutsideKind = codes "B11"
cause_text cause.NotAZoneRule = codes "B12"
cause_text cause.BeyondLimit = codes "B13"

abbrev pub section_text : Section → List ℕ
section_text section.Top = codes "top"
section_text section.Point = codes "point"
section_text section.Panel = codes "panel"
section_text section.Calendar = codes "calendar"
section_text section.Schedule = codes "schedule"

abbrev pub key_text : Key → List ℕ
key_text key.File = codes "-"
key_text key.Unknown = codes "?"
key_text key.Zone = codes "zone"
key_text key.Point = codes "point"
key_text key.Panel = codes "panel"
key_text key.Calendar = codes "calendar"
key_text key.Schedule = codes "schedule"
key_text key.Name = codes "name"
key_text key.Kind = codes "kind"
key_text key.States = codes "states"
key_text key.Low = codes "low"
key_text key.High = codes "high"
key_text key.Default = codes "default"
key_text key.Points = codes "points"
key_text key.Priorities = codes "priorities"
key_text key.Entries = codes "entries"
key_text key.Period = codes "period"
key_text key.Priority = codes "priority"
key_text key.Targets = codes "targets"
key_text key.Weekly = codes "weekly"
key_text key.Exception = codes "exception"
key_text key.OnLeave = codes "on_leave"
key_text key.Entry = codes "entry"
key_text key.Times = codes "times"

-- the number, the section, the position in it, and the key
abbrev pub fault_line : FileFault → List ℕ
fault_line fault = cause_text fault.cause ++ (codes " " ++ (section_text fault.section ++ (codes " "
    ++ (decimal fault.position ++ (codes " " ++ key_text fault.key)))))
