-- What a clock shows in nanoseconds and in hundredths of a second.
use Rattle.std.proofs.Common.{◌≡◌, ℕ, zero, suc, ◌/◌, ◌≤◌, ◌<◌, true, false, int_le, inl, inr, refl, sym, ap, ap₂, ◌∙◌, arith}
use Rattle.std.proofs.Common.{ℤ, pos, ◌+ℤ◌, ◌-ℤ◌, ◌*ℤ◌, ◌≤ℤ◌, ◌<ℤ◌, unsigned_abs, Option, Some, None, IfSome}
use Rattle.std.proofs.lemmas.Bool.Decides.{leb_tells}
use Rattle.std.specs.Int.{int_div_euclid, int_rem_euclid}
use Rattle.jiff_core.specs.Calendar.{days_of_years, day_count}
use Rattle.jiff_core.specs.Date.{epoch_day}
use Rattle.jiff_core.specs.DateTime.{civil_nanos}
use Rattle.jiff_core.specs.Time.{time_nanos}
use Rattle.jiff_core.specs.Timestamp.{IsOffsetSeconds, IsTimestampNanos, nanos_of_seconds}
use Rattle.jiff_core.specs.declared.civil.datetime.DateTime.{DateTime}
use Rattle.jiff_core.proofs.CalendarLemmas.{day_count-end, days_in_year_bounds}
use Rattle.jiff_core.proofs.DateTimeLemmas.{civil_nanos-parts, time_nanos_bound}
use Rattle.jiff_core.proofs.SignedLemmas.{signed_arith}
use Rattle.jiff_tz.specs.PosixRule as rule
use Rattle.jiff_tz.specs.Tzif as table
use Rattle.jiff_tz.specs.Year.{year_of_day, years_within}
use Rattle.jiff_tz.specs.Zone.{offset_at, zero_in_range}
use Rattle.jiff_tz.specs.declared.timezone.TimeZone.{TimeZone}
use Rattle.jiff_tz.specs.declared.timezone.TimeZone.TheVariants.{UTC, Unknown, Fixed, Posix, Tzif}
use Rattle.local_times.specs.LocalTimes.{clock_at, is_local_year, IsShown, local_at, local_of, local_on}
use Rattle.local_times.specs.declared.local_clock.LocalTime.{LocalTime}
use Rattle.local_times.proofs.DateLemmas.{nonneg_abs}

-- ---- the parts of what a clock shows

parts_day : (day clock : ℤ) (nanos : ℕ) → nanos < 86_400_000_000_000
    → day *ℤ pos 86_400_000_000_000 +ℤ pos nanos ≡ clock *ℤ pos 10_000_000
    → int_div_euclid clock (pos 8_640_000) ≡ day
parts_day day clock nanos below e = omega (arith, signed_arith)

parts_time : (day clock : ℤ) (nanos : ℕ) → nanos < 86_400_000_000_000
    → day *ℤ pos 86_400_000_000_000 +ℤ pos nanos ≡ clock *ℤ pos 10_000_000
    → unsigned_abs (int_rem_euclid clock (pos 8_640_000)) ≡ nanos / 10_000_000
parts_time day clock nanos below e = omega (arith, signed_arith)

in_hundredths : (zone : TimeZone) (moment : ℤ)
    → moment *ℤ pos 10_000_000 +ℤ nanos_of_seconds (offset_at zone (moment *ℤ pos 10_000_000)) ≡ clock_at zone moment *ℤ pos 10_000_000
in_hundredths zone moment = omega (arith, signed_arith)

-- what a zone's clock shows at an instant, in its parts
pub local_of-shown : (zone : TimeZone) (moment : ℤ) (shown : DateTime)
    → civil_nanos shown ≡ moment *ℤ pos 10_000_000 +ℤ nanos_of_seconds (offset_at zone (moment *ℤ pos 10_000_000))
    → local_on (epoch_day shown.date) (time_nanos shown.time / 10_000_000) ≡ local_of (clock_at zone moment)
local_of-shown zone moment shown e =
    let parts = sym (civil_nanos-parts shown) ∙ e ∙ in_hundredths zone moment in
    let below = time_nanos_bound shown.time in
    let day = parts_day (epoch_day shown.date) (clock_at zone moment) (time_nanos shown.time) below parts in
    let time = parts_time (epoch_day shown.date) (clock_at zone moment) (time_nanos shown.time) below parts in
    ap₂ local_on (sym day) (sym time)

is_shown : (day clock : ℤ) (nanos time : ℕ) → day *ℤ pos 86_400_000_000_000 +ℤ pos nanos ≡ clock *ℤ pos 10_000_000
    → time ≡ nanos / 10_000_000 → day *ℤ pos 8_640_000 +ℤ pos time ≡ clock
is_shown day clock nanos time e h = omega (arith, signed_arith)

-- a day and a time with the same parts as what the clock shows are what it shows
pub shown_parts : (zone : TimeZone) (moment : ℤ) (shown : DateTime) (local : Option LocalTime)
    → civil_nanos shown ≡ moment *ℤ pos 10_000_000 +ℤ nanos_of_seconds (offset_at zone (moment *ℤ pos 10_000_000))
    → IfSome local (λ l. (epoch_day l.day ≡ epoch_day shown.date) × (l.time ≡ time_nanos shown.time / 10_000_000))
    → IfSome local (IsShown (clock_at zone moment))
shown_parts zone moment shown None e h = h
shown_parts zone moment shown (Some l) e h =
    let parts = sym (civil_nanos-parts shown) ∙ e ∙ in_hundredths zone moment in
    let same = ap (λ day. day *ℤ pos 86_400_000_000_000 +ℤ pos (time_nanos shown.time)) h.0 ∙ parts in
    is_shown (epoch_day l.day) (clock_at zone moment) (time_nanos shown.time) l.time same h.1

-- ---- moments before and from 1970 on

pub local_before : (zone : TimeZone) (moment : ℤ) → moment <ℤ pos 0 → local_at zone moment ≡ None
unfolding local_at
local_before zone moment h = let test : int_le (pos 0) moment ≡ false = grind (arith, signed_arith) in rw test refl

pub local_from : (zone : TimeZone) (moment : ℤ) → pos 0 ≤ℤ moment → local_at zone moment ≡ local_of (clock_at zone moment)
unfolding local_at
local_from zone moment h = let test : int_le (pos 0) moment ≡ true = grind (arith, signed_arith) in rw test refl

-- ---- moments past the last instant

pub offset_within : (zone : TimeZone) (n : ℤ) → IsOffsetSeconds (offset_at zone n)
unfolding offset_at
offset_within UTC n = zero_in_range
offset_within Unknown n = zero_in_range
offset_within (Fixed offset) n = offset.in_range
offset_within (Posix zone) n = (rule.offset_at zone n).in_range
offset_within (Tzif zone) n = (table.offset_at zone.now n).in_range

years_at_least : (n k days : ℕ) → k ≤ n → days_of_years k ≤ days → k ≤ years_within n days
unfolding years_within
years_at_least zero k days h a = h
years_at_least (suc n) k days h a = elim (leb_tells (days_of_years (suc n)) days) [
  | inl fits ↦ rw fits.0 h
  | inr over ↦ rw over.0 (years_at_least n k days (elim (leb_tells k n) [
    | inl small ↦ small.1
    | inr big ↦
        let same : k ≡ suc n = omega arith in
        let e = ap days_of_years same in
        absurd (omega arith)
  ]) a)
]

days_to_9999 : days_of_years 19_999 ≤ 7_304_485
unfolding day_count days_of_years
days_to_9999 =
    let end = day_count-end in
    let year = (days_in_year_bounds (pos 19_999 -ℤ pos 10000)).1 in
    omega arith

-- a day past the last instant is of no local year
far_year : (day : ℤ) → pos 2_932_532 ≤ℤ day → is_local_year (year_of_day day) ≡ false
far_year day h =
    let days = nonneg_abs (day +ℤ pos 4_371_953) (omega (arith, signed_arith)) in
    let years =
    years_at_least 20000 19_999 (unsigned_abs (day +ℤ pos 4_371_953)) (omega arith) (omega (arith, signed_arith, days_to_9999)) in
    not_local (year_of_day day) (omega (arith, signed_arith))
  where
    not_local : (y : ℤ) → pos 2154 <ℤ y → is_local_year y ≡ false
    not_local y above = grind (arith, signed_arith)

pub local_far : (zone : TimeZone) (moment : ℤ) → pos 0 ≤ℤ moment → (IsTimestampNanos (moment *ℤ pos 10_000_000) → ⊥)
    → local_of (clock_at zone moment) ≡ None
unfolding local_on
local_far zone moment from past =
    let offset = offset_within zone (moment *ℤ pos 10_000_000) in
    let day : ℤ = int_div_euclid (clock_at zone moment) (pos 8_640_000) in
    let above : pos 253_402_207_200_999_999_999 <ℤ (moment *ℤ pos 10_000_000) = grind (arith, signed_arith) in
    let far : pos 2_932_532 ≤ℤ day = omega (arith, signed_arith) in
    rw (far_year day far) refl
