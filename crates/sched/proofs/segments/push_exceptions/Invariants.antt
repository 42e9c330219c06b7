use Rattle.std.proofs.Common.{◌≡◌, ◌++◌, take}
use Rattle.std.specs.List.{flat_map}
use Rattle.sched.specs.Named.{exception_times}
use Rattle.sched.proofs.segments.push_exceptions.Given as goal

abbrev pub invariant-loop-exception : goal.invariant-loop-exception
invariant-loop-exception l =
    l.times.items ≡ l.fn.times.items ++ flat_map (exception_times l.calendars l.day) (take l.exception-index l.exceptions)
