use Rattle.std.proofs.Common.{◌≡◌, take, string_bytes}
use Rattle.std.specs.List.{flat_map}
use Rattle.cli_record.specs.RecordText.{difference_line}
use Rattle.cli_record.proofs.record_text.differences_text.Given as goal

-- the lines so far
abbrev pub invariant-loop-difference : goal.invariant-loop-difference
invariant-loop-difference l = string_bytes l.text ≡ flat_map difference_line (take l.difference-index l.found)
