-- What is printed of a comparison with a record.
use Rattle.std.specs.Prelude.{ℕ, List, [], ◌∷◌, ◌++◌, codes}
use Rattle.std.specs.Fmt.{decimal}
use Rattle.cli_record.specs.declared.difference.Difference.{Difference}
use Rattle.cli_record.specs.DifferenceLine.{line_of}

abbrev pub difference_line : Difference → List ℕ
difference_line difference = line_of difference ++ 10 ∷ []

-- the tables are those of so many deliveries
abbrev pub whole_line : ℕ → List ℕ
whole_line count = codes "record: " ++ (decimal count ++ codes " deliveries\n")

-- the tables are those of so many deliveries without the last
abbrev pub unmade_line : ℕ → List ℕ
unmade_line count = codes "record: " ++ (decimal count ++ codes " deliveries, the last of which is not made yet\n")
