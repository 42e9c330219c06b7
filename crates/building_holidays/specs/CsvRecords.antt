-- The records of a CSV text.
use Rattle.std.specs.Prelude.{ℕ, List}
use Rattle.csv.specs.Reading.{default_config, records, strip_bom}

-- the fields of a record, as their bytes
abbrev pub Fields : Type 0
Fields = List (List ℕ)

-- what `csv` reads after a leading byte order mark
abbrev pub records_of : List ℕ → List Fields
records_of text = records default_config (strip_bom text)
