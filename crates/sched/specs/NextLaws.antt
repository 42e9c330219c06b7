-- The next change, beside what `sched` says of the value at each time.
use Rattle.std.specs.Prelude.{◌≡◌, ◌≢◌, ℕ, ◌<◌, ◌≤◌, ℤ, List, Option, Some, None}
use Rattle.jiff_core.specs.declared.civil.date.Date.{Date}
use Rattle.sched.specs.declared.calendar.Calendar.{Calendar}
use Rattle.sched.specs.declared.schedule.Schedule.{Schedule}
use Rattle.sched.specs.declared.time.TheConstants.{HUNDREDTHS_A_DAY}
use Rattle.sched.specs.Schedule.{schedule_value}
use Rattle.sched.specs.declared.changes.NextChange.{NextChange}
use Rattle.sched.specs.NextChange.{next_change}

-- from a time on, before an end, the value is that at the time
abbrev pub Stands : (ℕ → Option ℤ) → ℕ → ℕ → Type 0
Stands value time end = (c : ℕ) → time ≤ c → c < end → value c ≡ value time

-- a later time of the day with another value, and the first such time
pub record IsNext (value : ℕ → Option ℤ) (time : ℕ) (change : NextChange) : Type 0 where
  pub is_later : time < change.time
  pub is_of_day : change.time < HUNDREDTHS_A_DAY
  pub has_value : change.value ≡ value change.time
  pub is_other : change.value ≢ value time
  pub is_first : Stands value time change.time

-- where there is none, the value stands to the end of the day
abbrev pub IsNextOrNone : (ℕ → Option ℤ) → ℕ → Option NextChange → Type 0
IsNextOrNone value time None = Stands value time HUNDREDTHS_A_DAY
IsNextOrNone value time (Some change) = IsNext value time change

abbrev pub NextChangeIsTheFirst : Type 0
NextChangeIsTheFirst = (schedule : Schedule) (calendars : List Calendar) (day : Date) (time : ℕ)
    → IsNextOrNone (λ c. schedule_value schedule calendars day c) time (next_change schedule calendars day time)
