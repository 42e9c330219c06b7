-- What a writer that may fail has taken of a text.
use Rattle.std.specs.Prelude.{◌≡◌, ◌++◌, ℕ, List, Option}
use Rattle.std.specs.Io.KnownBytes.{Appends}

-- a beginning of a text was appended
abbrev pub AppendsStart : Option (List ℕ) → Option (List ℕ) → List ℕ → Type 0
AppendsStart old new text = (start rest : List ℕ) × (text ≡ start ++ rest) × Appends old new start
