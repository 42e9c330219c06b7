-- The fields of a record, as text.
use Rattle.std.specs.Prelude.{ℕ, ◌==◌, List, length, Option, Some, None, if◌then◌else◌}
use Rattle.csv.specs.Records.{field_at}
use Rattle.building_holidays.specs.CsvRecords.{Fields}
use Rattle.points.specs.Steps.{◌>>=◌}
use Rattle.points.specs.Texts.{text_of}

-- the first two fields, where both are UTF-8
abbrev pub both_texts : Fields → Option (List ℕ × List ℕ)
both_texts fields = do
  first ← field_at fields 0
  first_text ← text_of first
  second ← field_at fields 1
  second_text ← text_of second
  Some (first_text, second_text)

-- the two fields of a record that has two, where both are UTF-8
unfoldable pub two_texts : Fields → Option (List ℕ × List ℕ)
two_texts fields = if length fields == 2 then both_texts fields else None
