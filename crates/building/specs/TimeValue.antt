-- The time value that a text `T=V` says.
use Rattle.std.specs.Prelude.{ℕ, ℤ, pos, neg_ℤ, ◌+◌, ◌-◌, ◌*◌, ◌==◌, Bool, ◌&&◌, nat_le, nat_lt, [], ◌∷◌, length, take, drop, codes}
use Rattle.std.specs.Prelude.{Option, Some, None, option_map, if◌then◌else◌}
use Rattle.std.specs.Char.{is_ascii_digit}
use Rattle.std.specs.List.{list_all, position_or_len}
use Rattle.std.specs.Str.{bytes_eq}
use Rattle.std.specs.Str.Parse.{digits_value}
use Rattle.sched.specs.declared.day_list.TimeValue.{TimeValue}
use Rattle.points.specs.Steps.{◌>>=◌}
use Rattle.points.specs.Texts.{Text}

-- ---- parts of a text

-- the index of the first `=`
abbrev pub equals_index : Text → ℕ
equals_index text = position_or_len (λ byte. byte == 61) text

-- the text before the first `=`, and the text after it
abbrev pub cut_at_equals : Text → Option (Text × Text)
cut_at_equals text =
    if nat_lt (equals_index text) (length text)
    then Some (take (equals_index text) text, drop (equals_index text + 1) text) else None

-- the text after the mark that it begins with
abbrev pub after_mark : ℕ → Text → Option Text
after_mark mark [] = None
after_mark mark (first ∷ rest) = if first == mark then Some rest else None

abbrev pub digit_at : ℕ → Option ℕ
digit_at byte = if nat_le 48 byte && nat_le byte 57 then Some (byte - 48) else None

abbrev pub below : ℕ → ℕ → Option ℕ
below limit number = if nat_lt number limit then Some number else None

-- the number of the two digits that a text begins with, where it is below a limit, and the rest
abbrev pub leading_below : ℕ → Text → Option (ℕ × Text)
leading_below limit (tens ∷ units ∷ rest) = do
  ten ← digit_at tens
  unit ← digit_at units
  number ← below limit (10 * ten + unit)
  Some (number, rest)
leading_below limit _ = None

-- ---- the time, in hundredths of a second after midnight

abbrev pub at_end : ℕ × Text → Option ℕ
at_end (number, []) = Some number
at_end (number, rest) = None

-- nothing, or `.hh`
abbrev pub hundredths_at : Text → Option ℕ
hundredths_at [] = Some 0
hundredths_at text = after_mark 46 text >>= leading_below 100 >>= at_end

-- nothing, or `:SS` and its hundredths
abbrev pub seconds_at : Text → Option ℕ
seconds_at [] = Some 0
seconds_at text = do
  rest ← after_mark 58 text
  seconds ← leading_below 60 rest
  hundredths ← hundredths_at seconds.1
  Some (100 * seconds.0 + hundredths)

-- `HH:MM`, and its seconds
abbrev pub time_at : Text → Option ℕ
time_at text = do
  hours ← leading_below 24 text
  rest ← after_mark 58 hours.1
  minutes ← leading_below 60 rest
  seconds ← seconds_at minutes.1
  Some (360_000 * hours.0 + 6_000 * minutes.0 + seconds)

-- ---- the value

-- 1 to 11 digits
abbrev pub is_number : Text → Bool
is_number text = nat_lt 0 (length text) && (nat_le (length text) 11 && list_all is_ascii_digit text)

abbrev pub number_at : Text → Option ℕ
number_at text = if is_number text then Some (digits_value 10 text) else None

-- a number, after an optional `-`
abbrev pub signed_at : Text → Option ℤ
signed_at [] = None
signed_at (first ∷ rest) =
    if first == 45 then option_map (λ number. neg_ℤ (pos number)) (number_at rest) else option_map pos (number_at (first ∷ rest))

-- `NULL`, or a number
abbrev pub value_at : Text → Option (Option ℤ)
value_at text = if bytes_eq text (codes "NULL") then Some None else option_map Some (signed_at text)

-- ---- the time value

abbrev pub time_value_at : Text → Option TimeValue
time_value_at text = do
  cut ← cut_at_equals text
  time ← time_at cut.0
  value ← value_at cut.1
  Some (record { time = time; value = value })
