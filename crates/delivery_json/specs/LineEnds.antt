-- Where the lines of bytes end.
use Rattle.std.specs.Prelude.{◌≡◌, ℕ, ◌==◌, false, List, ◌∷◌, ◌++◌, length, Option, Some, None}
use Rattle.std.specs.List.{list_any}

-- bytes without a line end (LF)
abbrev pub IsLine : List ℕ → Type 0
IsLine bytes = list_any (λ byte. byte == 10) bytes ≡ false

-- the index of the last line end
abbrev pub IsLastEnd : Option ℕ → List ℕ → Type 0
IsLastEnd None bytes = IsLine bytes
IsLastEnd (Some index) bytes =
    (before : List ℕ) × (after : List ℕ) × (bytes ≡ before ++ 10 ∷ after) × (length before ≡ index) × IsLine after
