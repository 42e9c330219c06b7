-- A span of a day, and where it begins and ends by the times that the day's lists name.
use Rattle.std.specs.Prelude.{◌≡◌, ◌⊎◌, ℕ, ◌+◌, ◌<◌, ◌≤◌, true, false, List}
use Rattle.jiff_core.specs.declared.civil.date.Date.{Date}
use Rattle.sched.specs.declared.span.Span.{Span}
use Rattle.sched.specs.ByTime.{is_named}
use Rattle.sched.specs.declared.time.TheConstants.{HUNDREDTHS_A_DAY}

-- a time of the span's day, from its first to its last
abbrev pub IsInSpan : Span → Date → ℕ → Type 0
IsInSpan span day time = (span.day ≡ day) × (span.first ≤ time) × (time ≤ span.last)

-- of the named times, the span begins at the latest that is not after a time; it ends a hundredth before the next, or with the day
pub record IsSpanAt (times : List ℕ) (time : ℕ) (span : Span) : Type 0 where
  pub begins : span.first ≤ time
  pub ends : time ≤ span.last
  pub first_is_named : is_named times span.first ≡ true
  pub next_is_named : (is_named times (span.last + 1) ≡ true) ⊎ (span.last + 1 ≡ HUNDREDTHS_A_DAY)
  pub none_between : (c : ℕ) → span.first < c → c ≤ span.last → is_named times c ≡ false
