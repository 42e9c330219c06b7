-- What gives a point its value, place after place.
use Rattle.std.proofs.Common.{◌≡◌, ◌∙◌, ℕ, ◌+◌, ◌<◌, List, ◌∷◌, Option, Some, None, drop, get_or, map, ap, sym}
use lib.Seq.{drop-cons}
use native.Mathlib.Numerals.{unary_clauses}
use Rattle.desk_why.specs.Authors.{priorities}
use Rattle.desk_why.specs.declared.author.Held.{Held}
use Rattle.desk_overrides.specs.declared.overriding.Given.{Given}
use Rattle.desk_overrides.specs.Overrides.{given_by, given_in, given_or}
use Rattle.desk_overrides.specs.Watched.{given_from, place_in}

abbrev along : (ℕ → Option Held) → ℕ → Option Given
along held at = given_in (map (place_in held) (drop at priorities))

pub given-along : (held : ℕ → Option Held) → given_from held ≡ along held 0
unfolding given_from
given-along held = λ i. given_in (map (place_in held) priorities)

next : (held : ℕ → Option Held) (at d : ℕ) → at < 16
    → along held at ≡ given_or (get_or priorities at d) (held (get_or priorities at d)) (along held (at + 1))
next held at d within = simp unary_clauses (ap (λ ps. given_in (map (place_in held) ps)) (drop-cons priorities at d within))

pub given-held : (held : ℕ → Option Held) (at d : ℕ) (it : Held) → at < 16 → held (get_or priorities at d) ≡ Some it
    → along held at ≡ given_by (get_or priorities at d) it.value it.author
given-held held at d it within is =
    next held at d within ∙ ap (λ place. given_or (get_or priorities at d) place (along held (at + 1))) is

pub given-none : (held : ℕ → Option Held) (at d : ℕ) → at < 16 → held (get_or priorities at d) ≡ None
    → along held at ≡ along held (at + 1)
given-none held at d within is =
    next held at d within ∙ ap (λ place. given_or (get_or priorities at d) place (along held (at + 1))) is
