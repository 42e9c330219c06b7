-- How a difference is printed.
use Rattle.std.specs.Prelude.{ℕ, ℤ, List, ◌++◌, Option, Some, None, codes}
use Rattle.std.specs.Fmt.{decimal, signed_decimal}
use Rattle.dates.specs.declared.entry.Entry.{Entry}
use Rattle.dates.specs.Entry.{spelling}
use Rattle.cli_record.specs.declared.difference.Difference.{Difference}
use Rattle.cli_record.specs.declared.difference.Difference.TheVariants.{Command, LastTick, NextNumber, NotRecorded, Place, RecordedAlone, Shown}

-- a value in a place, or nothing
abbrev pub place_text : Option ℤ → List ℕ
place_text None = codes "nothing"
place_text (Some value) = signed_decimal value

-- a moment, or none
abbrev pub moment_text : Option ℤ → List ℕ
moment_text None = codes "none"
moment_text (Some moment) = signed_decimal moment

-- what a place has, and what the record has there
abbrev pub both_values : Option ℤ → Option ℤ → List ℕ
both_values held recorded = place_text held ++ (codes ", and " ++ (place_text recorded ++ codes " by the record"))

-- an entry of a calendar
abbrev pub entry_text : List ℕ → Entry → List ℕ
entry_text calendar entry = codes "calendar " ++ (calendar ++ (codes " " ++ spelling entry))

-- the line, without the line end
abbrev pub line_of : Difference → List ℕ
line_of (NextNumber panel held recorded) = codes "panel " ++ (panel ++ (codes ": next number " ++ (decimal held
    ++ (codes ", and " ++ (decimal recorded ++ codes " by the record")))))
line_of (Command panel number) =
    codes "panel " ++ (panel ++ (codes " command " ++ (decimal number ++ codes ": not as the record has it")))
line_of (Place point priority held recorded) =
    codes "point " ++ (point ++ (codes " " ++ (decimal priority ++ (codes ": " ++ both_values held recorded))))
line_of (Shown schedule) = codes "schedule " ++ (schedule ++ codes ": not shown as the record has it")
line_of (NotRecorded calendar entry) = entry_text calendar entry ++ codes ": not in the record"
line_of (RecordedAlone calendar entry) = entry_text calendar entry ++ codes ": in the record alone"
line_of (LastTick held recorded) = codes "last tick " ++ (moment_text held
    ++ (codes ", and " ++ (moment_text recorded ++ codes " by the record")))
