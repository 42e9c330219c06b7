-- A clock shows a local time at a moment exactly where that is the local time at it.
use Rattle.std.proofs.Common.{◌≡◌, ◌∙◌, ℕ, ◌<◌, true, false, refl, sym, ap₂, arith}
use Rattle.std.proofs.Common.{ℤ, pos, ◌+ℤ◌, ◌-ℤ◌, ◌*ℤ◌, ◌≤ℤ◌, ◌<ℤ◌, unsigned_abs, int_le, Bool, Some, None}
use Rattle.std.specs.Int.{int_div_euclid, int_rem_euclid}
use Rattle.jiff_core.specs.Date.{epoch_day}
use Rattle.jiff_core.specs.declared.civil.date.Date.{Date}
use Rattle.jiff_core.proofs.SignedLemmas.{signed_arith}
use Rattle.jiff_tz.proofs.YearLemmas.{year_of_day-date}
use Rattle.jiff_core.specs.Timestamp.{IsOffsetSeconds}
use Rattle.jiff_tz.specs.Zone.{offset_at}
use Rattle.jiff_tz.specs.declared.timezone.TimeZone.{TimeZone}
use Rattle.dates.specs.Day.{IsDay, IsOfYears}
use Rattle.local_times.specs.LocalTimes.{IsShown, clock_at, is_local_year, local_at, local_of, local_on}
use Rattle.local_times.specs.declared.local_clock.LocalTime.{LocalTime}
use Rattle.local_times.proofs.ClockLemmas.{local_before, local_from, offset_within}
use Rattle.local_times.proofs.DateLemmas.{local_on-new}
use Rattle.dates.proofs.DayLemmas.{same_date}
use Rattle.moments.specs.Meaning.{Shows}

whole_days : (day clock : ℤ) (time : ℕ) → time < 8_640_000 → day *ℤ pos 8_640_000 +ℤ pos time ≡ clock
    → int_div_euclid clock (pos 8_640_000) ≡ day
whole_days day clock time below e = omega (arith, signed_arith)

rest_of_day : (day clock : ℤ) (time : ℕ) → time < 8_640_000 → day *ℤ pos 8_640_000 +ℤ pos time ≡ clock
    → unsigned_abs (int_rem_euclid clock (pos 8_640_000)) ≡ time
rest_of_day day clock time below e = omega (arith, signed_arith)

local_of-shown : (clock : ℤ) (local : LocalTime) → local.time < 8_640_000 → IsShown clock local
    → local_of clock ≡ local_on (epoch_day local.day) local.time
local_of-shown clock local below shown = ap₂ local_on (whole_days (epoch_day local.day) clock local.time below shown)
    (rest_of_day (epoch_day local.day) clock local.time below shown)

is_day : (d : Date) → IsOfYears d → IsDay d.year d.month d.day
is_day d years =
    let month = d.month_in in
    let day = d.day_in in
    (years, (d.year_in, (omega (arith, signed_arith), omega (arith, signed_arith)), (omega (arith, signed_arith), omega (arith, signed_arith))))

local_year-from : (year : ℤ) → is_local_year year ≡ true → pos 1970 ≤ℤ year
local_year-from year is = grind (arith, signed_arith)

local_on-day : (d : Date) (time : ℕ) → IsOfYears d → is_local_year d.year ≡ true
    → local_on (epoch_day d) time ≡ Some (record { day = d; time = time })
local_on-day d time years is =
    local_on-new d time (Some d) (local_year-from d.year is) ((λ some. is_day d years), (λ day. refl)) (refl, refl, refl)

local_on-outside : (d : Date) (time : ℕ) → is_local_year d.year ≡ false → local_on (epoch_day d) time ≡ None
unfolding local_on
local_on-outside d time is = rw (year_of_day-date d, is) refl

-- a local time is known by its clock
pub same_local : (s t : LocalTime) → s.time < 8_640_000 → t.time < 8_640_000
    → epoch_day s.day *ℤ pos 8_640_000 +ℤ pos s.time ≡ epoch_day t.day *ℤ pos 8_640_000 +ℤ pos t.time → s ≡ t
same_local s t s_below t_below e =
    let day = same_date s.day t.day (omega (arith, signed_arith)) in
    let time : s.time ≡ t.time = omega (arith, signed_arith) in
    λ i. record { day = day i; time = time i }

-- what is shown is the local time
pub Shows-local : (zone : TimeZone) (local : LocalTime) (at : ℤ) → IsOfYears local.day → local.time < 8_640_000
    → Shows zone local at → local_at zone at ≡ Some local
Shows-local zone local at years below shows =
    local_from zone at shows.from_1970 ∙ local_of-shown (clock_at zone at) local below shows.shown
    ∙ local_on-day local.day local.time years shows.is_local

-- and the other way
pub Shows-of : (zone : TimeZone) (local : LocalTime) (at : ℤ) → local.time < 8_640_000 → local_at zone at ≡ Some local
    → IsShown (clock_at zone at) local → Shows zone local at
Shows-of zone local at below is shown = by (is_local_year local.day.year) refl (int_le (pos 0) at) refl
  where
    by : (year : Bool) → is_local_year local.day.year ≡ year → (later : Bool) → int_le (pos 0) at ≡ later → Shows zone local at
    by true year true later = record { is_local = year; from_1970 = grind (arith, signed_arith); shown = shown }
    by false year true later =
        let from : pos 0 ≤ℤ at = grind (arith, signed_arith) in
        let none = sym is ∙ local_from zone at from ∙ local_of-shown (clock_at zone at) local below shown
        ∙ local_on-outside local.day local.time year in
        let bad : ⊥ = cc in absurd bad
    by year_is year false later =
        let before : at <ℤ pos 0 = grind (arith, signed_arith) in
        let none = sym is ∙ local_before zone at before in
        let bad : ⊥ = cc in absurd bad

-- ---- how far ahead of UTC a clock is

-- so many seconds that the zone has
pub ahead_of : (zone : TimeZone) (local : LocalTime) (at : ℤ) → Shows zone local at
    → (ahead : ℤ) × IsOffsetSeconds ahead × (at +ℤ ahead *ℤ pos 100 ≡ epoch_day local.day *ℤ pos 8_640_000 +ℤ pos local.time)
ahead_of zone local at shows =
    (offset_at zone (at *ℤ pos 10_000_000), offset_within zone (at *ℤ pos 10_000_000), sym shows.shown)

-- whoever is not here is a second later
pub next_after : (at here ahead clock left : ℤ) → at +ℤ ahead *ℤ pos 100 ≡ clock → here ≡ clock -ℤ left *ℤ pos 100 → here ≤ℤ at
    → (at ≡ here → ⊥) → (clock -ℤ (left -ℤ pos 1) *ℤ pos 100) ≤ℤ at
next_after at here ahead clock left e h from other = by (int_le left ahead) refl
  where
    by : (test : Bool) → int_le left ahead ≡ test → (clock -ℤ (left -ℤ pos 1) *ℤ pos 100) ≤ℤ at
    by true test =
        let most : left ≤ℤ ahead = grind (arith, signed_arith) in
        absurd (other (omega (arith, signed_arith)))
    by false test =
        let less : ahead <ℤ left = grind (arith, signed_arith) in
        omega (arith, signed_arith)
