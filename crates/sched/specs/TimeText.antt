-- The text of a time of day.
use Rattle.std.specs.Prelude.{ℕ, ◌/◌, ◌%◌, List, ◌++◌, codes}
use Rattle.dates.specs.Notation.{two_digit_text}

-- hours, minutes, seconds and hundredths, two digits each: HH:MM:SS.hh
abbrev pub time_text : ℕ → List ℕ
time_text time =
    two_digit_text (time / 360_000) ++ (codes ":" ++ (two_digit_text (time / 6_000 % 60) ++ (codes ":"
    ++ (two_digit_text (time / 100 % 60) ++ (codes "." ++ two_digit_text (time % 100))))))
