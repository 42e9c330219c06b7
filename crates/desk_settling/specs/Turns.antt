-- What one schedule more writes and shows.
use Rattle.std.specs.Prelude.{◌≡◌, ◌++◌, ℤ, List, Option}
use Rattle.local_times.specs.declared.local_clock.LocalTime.{LocalTime}
use Rattle.sched.specs.declared.calendar.Calendar.{Calendar}
use Rattle.building.specs.declared.named_schedule.NamedSchedule.{NamedSchedule}
use Rattle.desk_settling.specs.declared.settlement.Written.{Written}
use Rattle.desk_settling.specs.Settled.{Now, cleared_by, put_by, shown_by}

-- the calendars at a local time
abbrev pub now_at : List Calendar → LocalTime → Now
now_at calendars local = record { calendars = calendars; day = local.day; time = local.time }

-- what a schedule that shows this writes, after what was written before it
pub record Turns (now : Now) (shows : Option (Option ℤ)) (schedule : NamedSchedule) (old new : Written) : Type 0 where
  pub cleared : new.cleared.items ≡ old.cleared.items ++ cleared_by now (λ name. shows) schedule
  pub put : new.put.items ≡ old.put.items ++ put_by now (λ name. shows) schedule
  pub shown : new.shown.items ≡ old.shown.items ++ shown_by now (λ name. shows) schedule
