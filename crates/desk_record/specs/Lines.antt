-- The whole lines of bytes.
use Rattle.std.specs.Prelude.{◌≡◌, ◌⊎◌, ℕ, ◌≤◌, ◌==◌, if◌then◌else◌, List, [], ◌∷◌, ◌++◌, length, take}

-- one byte more before the first of some lines; where there is no line, it stands in none
abbrev pub with_first : ℕ → List (List ℕ) → List (List ℕ)
with_first byte [] = []
with_first byte (line ∷ lines) = (byte ∷ line) ∷ lines

-- the whole lines of bytes, each without its line end (LF); what stands after the last LF is no line
abbrev pub whole_lines : List ℕ → List (List ℕ)
whole_lines [] = []
whole_lines (byte ∷ bytes) = if byte == 10 then [] ∷ whole_lines bytes else with_first byte (whole_lines bytes)

-- bytes that are whole lines and nothing else
abbrev pub IsWhole : List ℕ → Type 0
IsWhole bytes = (bytes ≡ []) ⊎ ((before : List ℕ) × (bytes ≡ before ++ 10 ∷ []))

-- one of two lists of bytes, the first of which begins the second, or some that are between
abbrev pub IsBetween : List ℕ → List ℕ → List ℕ → Type 0
IsBetween first last bytes = (count : ℕ) × (length first ≤ count) × (bytes ≡ take count last)
