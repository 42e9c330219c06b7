-- Where two runs of rows begin to differ in what was sent.
use Rattle.std.specs.Prelude.{ℕ, ◌==◌, Bool, ◌&&◌, if◌then◌else◌, min, List, [], ◌∷◌, Option, Some, None}
use Rattle.points.specs.ContentEq.{content_eq}
use Rattle.points.specs.declared.numbered_row.NumberedRow.{NumberedRow}
use Rattle.points.specs.Run.{IsRun, Rows}
use Rattle.cli_record.specs.Differences.{end_number, first_number}

-- the same content under one number
abbrev pub is_same_sent : NumberedRow → NumberedRow → Bool
is_same_sent row other = (row.number == other.number) && content_eq row.row.content other.row.content

-- the least number under which one of two rising runs has a content that the other has not
abbrev pub first_unlike : List NumberedRow → List NumberedRow → Option ℕ
first_unlike [] [] = None
first_unlike [] (other ∷ others) = Some other.number
first_unlike (row ∷ rows) [] = Some row.number
first_unlike (row ∷ rows) (other ∷ others) =
    if is_same_sent row other then first_unlike rows others else Some (min row.number other.number)

-- the rows that two sides have under the numbers that a panel with this next number may still repeat or use
abbrev pub AreRuns : Rows → Rows → ℕ → List NumberedRow → List NumberedRow → Type 0
AreRuns held recorded next ours theirs =
    let from = min (first_number next) (end_number next) in
    IsRun held from (end_number next) ours × IsRun recorded from (end_number next) theirs
