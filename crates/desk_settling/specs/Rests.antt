-- Schedules that show what they should.
use Rattle.std.specs.Prelude.{◌≡◌, ℕ, false, IfSome, List, [], Option}
use Rattle.building.specs.declared.named_schedule.NamedSchedule.{NamedSchedule}
use Rattle.jiff_core.specs.declared.civil.date.Date.{Date}
use Rattle.sched.specs.declared.calendar.Calendar.{Calendar}
use Rattle.desk_settling.specs.Settled.{Now, Shown, falls_quiet, is_due, changes_shown}

abbrev pub at_time : List Calendar → Date → ℕ → Now
at_time calendars day time = record { calendars = calendars; day = day; time = time }

-- neither due nor falling quiet
pub record Rests (now : Now) (shown : Shown) (schedule : NamedSchedule) : Type 0 where
  pub not_due : is_due now shown schedule ≡ false
  pub not_quiet : falls_quiet now shown schedule ≡ false

-- at an earlier time of a day, where one is given, nothing would change of what schedules show
abbrev pub HaveRested : List Calendar → Date → Shown → List NamedSchedule → Option ℕ → Type 0
HaveRested calendars day shown schedules since = IfSome since (λ earlier. changes_shown (at_time calendars day earlier) shown schedules ≡ [])
