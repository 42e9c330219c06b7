use Rattle.std.proofs.Common.{◌≡◌, ◌<◌, ℕ, get_or}
use Rattle.sched.specs.Schedule.{schedule_value}
use Rattle.sched.specs.Segments.{segments_below}
use Rattle.sched.specs.declared.time.TheConstants.{HUNDREDTHS_A_DAY}
use Rattle.sched.proofs.SegmentLemmas.{covered}
use Rattle.sched.proofs.schedule.Schedule.segments.Given as goal

abbrev pub invariant-loop-time : goal.invariant-loop-time
invariant-loop-time l = record {
  so_far : l.segments.items ≡ segments_below (λ c. schedule_value l.self l.calendars l.day c) (covered l.time-items l.time-index);
  in_day : (k : ℕ) → k < l.time-index → get_or l.time-items k 0 < HUNDREDTHS_A_DAY;
}
