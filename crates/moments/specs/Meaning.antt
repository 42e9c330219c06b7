-- Which moment is meant, a number of hundredths of a second since 1970-01-01T00:00:00Z.
use Rattle.std.specs.Prelude.{◌≡◌, ℤ, pos, ◌+ℤ◌, ◌≤ℤ◌, Some, None, true}
use Rattle.jiff_tz.specs.declared.timezone.TimeZone.{TimeZone}
use Rattle.local_times.specs.LocalTimes.{clock_at, is_local_year, IsShown}
use Rattle.local_times.specs.declared.local_clock.LocalTime.{LocalTime}
use Rattle.moments.specs.declared.moment.Moment.{Moment}
use Rattle.moments.specs.declared.moment.Moment.TheVariants as moment

-- the clock of the zone shows the day and the time at the moment
pub record Shows (zone : TimeZone) (local : LocalTime) (at : ℤ) : Type 0 where
  pub is_local : is_local_year local.day.year ≡ true
  pub from_1970 : pos 0 ≤ℤ at
  pub shown : IsShown (clock_at zone at) local

-- and at none before
abbrev pub ShowsFirst : TimeZone → LocalTime → ℤ → Type 0
ShowsFirst zone local at = Shows zone local at × ((other : ℤ) → Shows zone local other → at ≤ℤ other)

-- and it is so many hundredths of a second ahead of UTC then
abbrev pub ShowsAhead : TimeZone → LocalTime → ℤ → ℤ → Type 0
ShowsAhead zone local ahead at = Shows zone local at × (at +ℤ ahead ≡ clock_at zone at)

abbrev pub Means : TimeZone → Moment → ℤ → Type 0
Means zone (moment.Counted counted) at = at ≡ counted
Means zone (moment.Shown local None) at = ShowsFirst zone local at
Means zone (moment.Shown local (Some ahead)) at = ShowsAhead zone local ahead at
