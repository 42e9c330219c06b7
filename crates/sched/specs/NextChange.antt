-- The next change of a schedule's value on a day.
use Rattle.std.specs.Prelude.{ℕ, nat_lt, List, Option, option_map}
use Rattle.std.specs.List.{find}
use Rattle.jiff_core.specs.declared.civil.date.Date.{Date}
use Rattle.sched.specs.declared.calendar.Calendar.{Calendar}
use Rattle.sched.specs.declared.day_list.TimeValue.{TimeValue}
use Rattle.sched.specs.declared.schedule.Schedule.{Schedule}
use Rattle.sched.specs.Schedule.{schedule_value}
use Rattle.sched.specs.Segments.{segments_of}
use Rattle.sched.specs.declared.changes.NextChange.{NextChange}
use Rattle.sched.specs.Sources.{source_of}

-- the first segment that begins after a time
abbrev pub first_after : List TimeValue → ℕ → Option TimeValue
first_after segments time = find (λ segment. nat_lt time segment.time) segments

-- the first later time of the day at which the schedule's value is another, with what gives it then: a segment begins
-- just where the value is another than a hundredth earlier, so from the time to the next segment the value stands
unfoldable pub next_change : Schedule → List Calendar → Date → ℕ → Option NextChange
next_change schedule calendars day time = option_map
    (λ (segment : TimeValue). record {
      time = segment.time;
      value = segment.value;
      source = source_of schedule calendars day segment.time;
    })
    (first_after (segments_of (λ c. schedule_value schedule calendars day c)) time)
