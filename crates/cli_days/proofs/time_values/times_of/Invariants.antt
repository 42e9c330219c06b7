use Rattle.std.proofs.Common.{◌≡◌, ◌<◌, take}
use Rattle.std.specs.List.{All}
use Rattle.sched.specs.DayList.{times_of}
use Rattle.cli_days.proofs.time_values.times_of.Given as goal

abbrev pub invariant-loop-time_value : goal.invariant-loop-time_value
invariant-loop-time_value l = record {
  times : l.times.items ≡ times_of (take l.time_value-index l.time_values);
  of_a_day : All (λ time. time < 8_640_000) l.times.items;
}
