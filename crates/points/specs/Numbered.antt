-- A priority array listed place by place: NULL places drop out, the others keep their numbers.
use Rattle.std.specs.Prelude.{ℕ, ◌+◌, List, [], ◌∷◌, Option, Some, None}

-- the values of a row of places, each with its number, counted from n
abbrev pub numbered : {A : Type 0} → ℕ → List (Option A) → List (ℕ × A)
numbered n [] = []
numbered n (None ∷ row) = numbered (n + 1) row
numbered n (Some value ∷ row) = (n, value) ∷ numbered (n + 1) row
