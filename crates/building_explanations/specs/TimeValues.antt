-- What follows the parts of a time value.
use Rattle.std.specs.Prelude.{ℕ, Option, option_map}
use Rattle.building.specs.TimeValue.{after_mark, leading_below}
use Rattle.points.specs.Texts.{Text}
use Rattle.points.specs.Steps.{◌>>=◌}

-- the text after the number of two digits below a limit that it begins with
abbrev pub after_number : ℕ → Text → Option Text
after_number limit text = option_map (λ cut. cut.1) (leading_below limit text)

-- the same after a mark
abbrev pub after_marked : ℕ → ℕ → Text → Option Text
after_marked mark limit text = after_mark mark text >>= after_number limit
