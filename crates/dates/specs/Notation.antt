-- The parts of a text that the notation of entries is made of: what a mark cuts, and the digits of a number.
use Rattle.std.specs.Prelude.{ℕ, ◌+◌, ◌-◌, ◌*◌, ◌/◌, ◌%◌, ◌==◌, [], ◌∷◌, ◌++◌, length, drop, slice_index, nat_eq}
use Rattle.std.specs.Prelude.{Option, Some, None, option_map, option_and_then, is_some, if◌then◌else◌}
use Rattle.std.specs.List.{starts_with}
use Rattle.dates.specs.Between.{is_between}
use Rattle.points.specs.Steps.{◌>>=◌}
use Rattle.points.specs.Texts.{Text}

-- ---- marks

-- the text before the first such mark, and the text after it
unfoldable pub cut_at : Text → Text → Option (Text × Text)
cut_at mark [] = None
cut_at mark (b ∷ rest) =
    if starts_with nat_eq (b ∷ rest) mark then Some ([], drop (length mark) (b ∷ rest))
    else option_map (λ cut. (b ∷ cut.0, cut.1)) (cut_at mark rest)

-- the text after the mark that it begins with
unfoldable pub without_prefix : Text → Text → Option Text
without_prefix mark text =
    if starts_with nat_eq text mark then Some (drop (length mark) text) else None

-- the texts before, between and after the two such marks of a text
unfoldable pub parts_at : Text → Text → Option (Text × Text × Text)
parts_at mark text =
    option_and_then (λ first. option_and_then (λ second.
    if is_some (cut_at mark second.1) then None else Some (first.0, second.0, second.1))
    (cut_at mark first.1)) (cut_at mark text)

-- ---- digits

-- the value of an ASCII digit
unfoldable pub digit_at : ℕ → Option ℕ
digit_at byte = if is_between 48 57 byte then Some (byte - 48) else None

-- the number that two digits write
unfoldable pub two_digits : Text → Option ℕ
two_digits text =
    if length text == 2 then (do
      tens ← digit_at (slice_index text 0)
      units ← digit_at (slice_index text 1)
      Some (10 * tens + units))
    else None

-- the number that four digits write
unfoldable pub four_digits : Text → Option ℕ
four_digits text =
    if length text == 4 then (do
      thousands ← digit_at (slice_index text 0)
      hundreds ← digit_at (slice_index text 1)
      tens ← digit_at (slice_index text 2)
      units ← digit_at (slice_index text 3)
      Some (1000 * thousands + 100 * hundreds + 10 * tens + units))
    else None

-- the digits of a number
abbrev pub two_digit_text : ℕ → Text
two_digit_text n = (48 + n / 10) ∷ ((48 + n % 10) ∷ [])

abbrev pub four_digit_text : ℕ → Text
four_digit_text n = two_digit_text (n / 100) ++ two_digit_text (n % 100)
