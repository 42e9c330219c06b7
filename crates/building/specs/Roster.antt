-- Items by their names.
use Rattle.std.specs.Prelude.{ℕ, Bool, true, not, ◌&&◌, List, [], ◌∷◌}
use Rattle.std.specs.List.{list_any}
use Rattle.std.specs.Str.{bytes_eq}
use Rattle.points.specs.NameIndex.{is_among}

abbrev pub has_the_name : {A : Type 0} → (A → List ℕ) → List ℕ → A → Bool
has_the_name name_of name x = bytes_eq (name_of x) name

-- an item of the list has the name
abbrev pub has_name : {A : Type 0} → (A → List ℕ) → List ℕ → List A → Bool
has_name name_of name xs = list_any (has_the_name name_of name) xs

-- no name stands twice
abbrev pub are_distinct : List (List ℕ) → Bool
are_distinct [] = true
are_distinct (name ∷ names) = not (is_among name names) && are_distinct names
