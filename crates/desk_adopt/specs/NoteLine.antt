-- How what has another name is printed, and a renaming that counts nowhere.
use Rattle.std.specs.Prelude.{ℕ, List, ◌++◌, codes}
use Rattle.desk_adopt.specs.declared.renamed_name.NameKind.{NameKind}
use Rattle.desk_adopt.specs.declared.renamed_name.NameKind.TheVariants.{Panel, Point, Schedule, Calendar}
use Rattle.desk_adopt.specs.declared.renamed_name.RenamedName.{RenamedName}
use Rattle.desk_adopt.specs.declared.renaming.Renaming.{Renaming}
use Rattle.desk_adopt.specs.declared.unused_renaming.UnusedReason.{UnusedReason}
use Rattle.desk_adopt.specs.declared.unused_renaming.UnusedReason.TheVariants.{NotInTables, OtherSection}
use Rattle.desk_adopt.specs.declared.unused_renaming.UnusedRenaming.{UnusedRenaming}

abbrev pub kind_text : NameKind → List ℕ
kind_text Panel = codes "panel"
kind_text Point = codes "point"
kind_text Schedule = codes "schedule"
kind_text Calendar = codes "calendar"

-- the line, without the line end
abbrev pub line_of : RenamedName → List ℕ
line_of renamed = kind_text renamed.kind ++ (codes " " ++ (renamed.old ++ (codes " is " ++ renamed.new)))

abbrev pub reason_text : Renaming → UnusedReason → List ℕ
reason_text renaming NotInTables = renaming.old ++ codes " is not in the tables"
reason_text renaming OtherSection = renaming.new ++ codes " is in another section"

-- the same of a renaming
abbrev pub unused_line_of : UnusedRenaming → List ℕ
unused_line_of unused = unused.renaming.old ++ (codes "=" ++ (unused.renaming.new ++ (codes ": "
    ++ reason_text unused.renaming unused.reason)))
