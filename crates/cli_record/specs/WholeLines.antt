-- The whole lines of a record.
use Rattle.std.specs.Prelude.{◌≡◌, ◌⊎◌, ℕ, ◌==◌, List, [], ◌∷◌, ◌++◌}
use Rattle.delivery_json.specs.LineEnds.{IsLine}

-- nothing, or bytes that end with a line end
abbrev pub IsWhole : List ℕ → Type 0
IsWhole bytes = (bytes ≡ []) ⊎ ((before : List ℕ) × (bytes ≡ before ++ 10 ∷ []))

-- the bytes up to and with their last line end: what stands after it was never delivered
pub record IsCut (bytes whole : List ℕ) : Type 0 where
  pub torn : List ℕ
  pub cut : bytes ≡ whole ++ torn
  pub is_whole : IsWhole whole
  pub is_torn : IsLine torn
