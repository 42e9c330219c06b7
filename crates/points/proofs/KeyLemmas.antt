-- A key among those that are known, as references and as texts.
use Rattle.std.proofs.Common.{◌≡◌, ℕ, List, [], ◌∷◌, ◌||◌, map, Bor, bytes_eq, refl, ap}
use Rattle.std.specs.List.{list_any}

pub known_key : (known : List (Bor (List ℕ))) (key : List ℕ)
    → list_any (λ k. bytes_eq k.now key) known ≡ list_any (λ k. bytes_eq k key) (map (λ k. k.now) known)
known_key [] key = refl
known_key (k ∷ known) key = ap (λ b. bytes_eq k.now key || b) (known_key known key)
