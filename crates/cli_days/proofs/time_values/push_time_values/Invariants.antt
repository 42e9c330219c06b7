use Rattle.std.proofs.Common.{◌≡◌, ◌++◌, string_bytes, take}
use Rattle.std.specs.List.{flat_map}
use Rattle.cli_days.specs.TimeValues.{text_at}
use Rattle.cli_days.proofs.time_values.push_time_values.Given as goal

abbrev pub invariant-loop-time : goal.invariant-loop-time
invariant-loop-time l = string_bytes l.text ≡ string_bytes l.initial.text ++ flat_map (text_at l.list) (take l.time-index l.times)
