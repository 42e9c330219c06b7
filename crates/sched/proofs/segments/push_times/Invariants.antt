use Rattle.std.proofs.Common.{◌≡◌, ◌++◌, take}
use Rattle.sched.specs.DayList.{times_of}
use Rattle.sched.proofs.segments.push_times.Given as goal

abbrev pub invariant-loop-time_value : goal.invariant-loop-time_value
invariant-loop-time_value l = l.times.items ≡ l.fn.times.items ++ times_of (take l.time_value-index l.list)
