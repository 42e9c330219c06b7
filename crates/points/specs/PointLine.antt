-- The line that tells how a point is.
use Rattle.std.specs.Prelude.{ℕ, ℤ, ◌-◌, List, [], ◌∷◌, ◌++◌, codes, length, replicate}
use Rattle.std.specs.Fmt.{decimal, signed_decimal}

-- a text at the left of so many places, and at their right
abbrev pub left_in : ℕ → List ℕ → List ℕ
left_in width text = text ++ replicate (width - length text) 32

abbrev pub right_in : ℕ → List ℕ → List ℕ
right_in width text = replicate (width - length text) 32 ++ text

-- `POINT `, the name in 32 places, the present value in 12, a space, its priority in 2, and LF
abbrev pub point_line : List ℕ → ℤ → ℕ → List ℕ
point_line name present priority = codes "POINT " ++ (left_in 32 name
    ++ (right_in 12 (signed_decimal present) ++ (32 ∷ (right_in 2 (decimal priority) ++ 10 ∷ []))))
