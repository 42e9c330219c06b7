-- The last whole line of a file.
use Rattle.std.specs.Prelude.{◌≡◌, ◌⊎◌, ℕ, List, [], ◌∷◌, ◌++◌, length, Option, Some, None}
use Rattle.building.specs.Building.{Building}
use Rattle.deliveries.specs.declared.delivery.Delivery.{Delivery}
use Rattle.desk_record.specs.declared.last_line.LastLine.{LastLine}
use Rattle.desk_record.specs.Lines.{IsWhole}
use Rattle.delivery_json.specs.LineEnds.{IsLine}
use Rattle.desk_record.specs.Recorded.{IsLineOf}
use Rattle.desk_record.specs.Torn.{IsTorn}

-- bytes behind so many others: whole lines, where they begin the file or end with a line end
abbrev pub IsWholeBehind : ℕ → List ℕ → Type 0
IsWholeBehind from bytes = ((from ≡ 0) × (bytes ≡ [])) ⊎ ((before : List ℕ) × (bytes ≡ before ++ 10 ∷ []))

-- the last whole line in the end of a file, which begins behind so many bytes; none in a file without a line end
abbrev pub HasLastLine : ℕ → List ℕ → Option LastLine → Type 0
HasLastLine from bytes None = (from ≡ 0) × IsLine bytes
HasLastLine from bytes (Some last) =
    (before : List ℕ) × (line : List ℕ) × (after : List ℕ) × (bytes ≡ before ++ (line ++ 10 ∷ after))
    × (length before ≡ last.start) × (length (before ++ line) ≡ last.end) × IsWholeBehind from before × IsLine line × IsLine after

-- the delivery that the last whole line of a file tells, and how many bytes are whole lines; none where there is no line.
-- What stands after them may be torn.
abbrev pub TellsLast : Building → List ℕ → ℕ → Option Delivery → Type 0
TellsLast building file whole None = (whole ≡ 0) × IsTorn file
TellsLast building file whole (Some delivery) =
    (before : List ℕ) × (line : List ℕ) × (after : List ℕ) × (file ≡ before ++ (line ++ 10 ∷ after))
    × (length (before ++ (line ++ 10 ∷ [])) ≡ whole) × IsWhole before × IsLineOf building delivery line × IsTorn after
