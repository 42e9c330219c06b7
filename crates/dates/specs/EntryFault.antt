-- Why a text spells no entry, and how that is reported.
use Rattle.std.specs.Prelude.{codes}
use Rattle.dates.specs.declared.entry_fault.EntryFault.{EntryFault}
use Rattle.dates.specs.declared.entry_fault.EntryFault.TheVariants.{Shape, Year, Month, Day, Weekday, Week, HalfSpecified}
use Rattle.points.specs.Texts.{Text}

abbrev pub fault_text : EntryFault → Text
fault_text Shape = codes "E1"
fault_text Year = codes "E2"
fault_text Month = codes "E3"
fault_text Day = codes "E4"
fault_text Weekday = codes "E5"
fault_text Week = codes "E6"
fault_text HalfSpecified = codes "E7"
