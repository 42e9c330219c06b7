-- Names among others.
use Rattle.std.specs.Prelude.{ℕ, Bool, List, ◌≡◌, position}
use Rattle.std.specs.HashMap.{HashMap, get}
use Rattle.std.specs.List.{list_any}
use Rattle.std.specs.Str.{bytes_eq}

-- the name is one of these
abbrev pub is_among : List ℕ → List (List ℕ) → Bool
is_among name names = list_any (λ n. bytes_eq n name) names

-- the index has for each name its first position in the list, and nothing for a name that is not there
abbrev pub IsIndex : {S : Type 0} → HashMap (List ℕ) ℕ S → List (List ℕ) → Type 0
IsIndex positions names = (name : List ℕ) → get bytes_eq positions name ≡ position (λ n. bytes_eq n name) names
