-- What is found where two sides are not the same.
use Rattle.std.specs.Prelude.{Bool, if◌then◌else◌, List, [], ◌∷◌}

abbrev pub unless : {A : Type 0} → Bool → A → List A
unless same difference = if same then [] else difference ∷ []
