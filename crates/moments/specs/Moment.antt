-- What a text says of a moment.
use Rattle.std.specs.Prelude.{◌≡◌, ℕ, ℤ, pos, neg_ℤ, ◌+◌, ◌==◌, [], nat_lt, length, take, drop}
use Rattle.std.specs.Prelude.{Option, Some, None, Ok, option_map, if◌then◌else◌}
use Rattle.std.specs.Int.{w64}
use Rattle.std.specs.List.{position_or_len}
use Rattle.std.specs.Str.Parse.{ParsesSigned}
use Rattle.building.specs.TimeValue.{time_at}
use Rattle.dates.specs.Day.{SpellsDay}
use Rattle.local_times.specs.declared.local_clock.LocalTime.{LocalTime}
use Rattle.moments.specs.declared.moment.Moment.{Moment}
use Rattle.moments.specs.declared.moment.Moment.TheVariants as moment
use Rattle.points.specs.Steps.{◌>>=◌}
use Rattle.points.specs.Texts.{Text}

-- the text before the first such mark, and the text after it
abbrev pub cut_at : ℕ → Text → Option (Text × Text)
cut_at mark text =
    let index = position_or_len (λ byte. byte == mark) text in
    if nat_lt index (length text) then Some (take index text, drop (index + 1) text) else None

-- a time, and how far ahead of UTC the clock is then
abbrev pub Clock : Type 0
Clock = ℕ × Option ℤ

abbrev pub with_ahead : (ℕ → ℤ) → Text × Text → Option Clock
with_ahead signed cut = do
  time ← time_at cut.0
  ahead ← time_at cut.1
  Some (time, Some (signed ahead))

abbrev pub at_utc : Text × Text → Option Clock
at_utc (time, []) = option_map (λ it. (it, Some (pos 0))) (time_at time)
at_utc (time, rest) = None

abbrev pub without_ahead : Text → Option Clock
without_ahead text = option_map (λ it. (it, None)) (time_at text)

abbrev pub or_else : Option (Text × Text) → (Text × Text → Option Clock) → Option Clock → Option Clock
or_else (Some cut) by other = by cut
or_else None by other = other

-- `HH:MM`, `HH:MM:SS` or `HH:MM:SS.hh`, and then nothing, `+HH:MM`, `-HH:MM` or `Z`
abbrev pub clock_in : Text → Option Clock
clock_in text = or_else (cut_at 43 text) (with_ahead pos)
    (or_else (cut_at 45 text) (with_ahead (λ ahead. neg_ℤ (pos ahead)))
    (or_else (cut_at 90 text) at_utc (without_ahead text)))

-- a day alone is its midnight; behind a `T` stands the time
abbrev pub SpellsLocal : Text → Option (Text × Text) → LocalTime → Option ℤ → Type 0
SpellsLocal text None local ahead = SpellsDay text local.day × (local.time ≡ 0) × (ahead ≡ None)
SpellsLocal text (Some cut) local ahead = SpellsDay cut.0 local.day × (clock_in cut.1 ≡ Some (local.time, ahead))

-- a number of 64 bits, or what the clock shows
abbrev pub SpellsMoment : Text → Moment → Type 0
SpellsMoment text (moment.Counted counted) = ParsesSigned {E = Text} w64 10 text (Ok counted)
SpellsMoment text (moment.Shown local ahead) = SpellsLocal text (cut_at 84 text) local ahead
