use Rattle.std.proofs.Common.{◌≡◌, filter}
use Rattle.std.specs.List.{range_with_len}
use Rattle.cli_days.specs.Speaking.{speaks_at_index}
use Rattle.cli_days.proofs.speaking.speaking.Given as goal

-- those so far
abbrev pub invariant-loop-index : goal.invariant-loop-index
invariant-loop-index l = l.indices.items ≡ filter (speaks_at_index l.calendars l.day l.exceptions) (range_with_len 0 l.index)
