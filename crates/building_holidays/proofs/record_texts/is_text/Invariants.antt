use Rattle.std.proofs.Common.{◌≡◌, drop}
use Rattle.std.specs.List.{list_all}
use Rattle.std.specs.Str.{is_utf8}
use Rattle.csv.specs.Records.{fields_of}
use Rattle.building_holidays.proofs.record_texts.is_text.Given as goal

abbrev pub invariant-loop-field : goal.invariant-loop-field
invariant-loop-field l =
    (l.field-iterator.row.now ≡ l.fields)
    × (list_all is_utf8 (fields_of l.fields) ≡ list_all is_utf8 (drop l.field-iterator.at (fields_of l.fields)))
