-- The lines of a finding, and of what the tables hold.
use Rattle.std.specs.Prelude.{ℕ, List, ◌++◌, codes}
use Rattle.std.specs.Fmt.{decimal, signed_decimal}
use Rattle.desk_adopt.specs.declared.finding.Finding.{Finding}
use Rattle.desk_adopt.specs.declared.finding.Finding.TheVariants.{NoTime, NobodyWrites, OutsideKind, UnknownCalendar, UnknownPanel, UnknownPoint, UnknownSchedule}
use Rattle.desk_adopt.specs.declared.holdings.Holdings.{Holdings}

-- the line, without the line end
abbrev pub line_of : Finding → List ℕ
line_of (UnknownPanel panel) = codes "panel " ++ (panel ++ codes " is not in the building")
line_of (UnknownPoint point) = codes "point " ++ (point ++ codes " is not in the building")
line_of (NobodyWrites point priority) =
    codes "point " ++ (point ++ (codes " " ++ (decimal priority ++ codes ": no schedule and no panel writes there")))
line_of (OutsideKind point priority value) = codes "point " ++ (point ++ (codes " " ++ (decimal priority
    ++ (codes ": " ++ (signed_decimal value ++ codes " is outside its kind")))))
line_of (UnknownSchedule schedule) = codes "schedule " ++ (schedule ++ codes " is not in the building")
line_of (UnknownCalendar calendar) = codes "calendar " ++ (calendar ++ codes " is not in the building")
line_of (NoTime moment) = codes "last tick " ++ (signed_decimal moment ++ codes ": the building's clock shows no time then")

-- what the tables hold, without the line end
abbrev pub holdings_line : Holdings → List ℕ
holdings_line holdings = codes "tables: " ++ (decimal holdings.panels ++ (codes " panels, " ++ (decimal holdings.points
    ++ (codes " points with values, " ++ (decimal holdings.schedules ++ (codes " schedules shown, " ++ (decimal holdings.entries
    ++ codes " imported entries")))))))
