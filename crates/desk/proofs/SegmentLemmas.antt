-- The line of a segment, part by part.
use Rattle.std.proofs.Common.{◌≡◌, ◌∙◌, ◌++◌, ◌∷◌, ℕ, List, [], ap, append_assoc}

pub joined-line : (old time value with_time with_space with_value new : List ℕ) → with_time ≡ old ++ time
    → with_space ≡ with_time ++ 32 ∷ []
    → with_value ≡ with_space ++ value → new ≡ with_value ++ 10 ∷ [] → new ≡ old ++ (time ++ (32 ∷ (value ++ 10 ∷ [])))
joined-line old time value with_time with_space with_value new a b c d =
    d ∙ (ap (λ t. t ++ 10 ∷ []) (c ∙ ap (λ t. t ++ value) (b ∙ ap (λ t. t ++ 32 ∷ []) a))
    ∙ (append_assoc ((old ++ time) ++ 32 ∷ []) value (10 ∷ [])
    ∙ (append_assoc (old ++ time) (32 ∷ []) (value ++ 10 ∷ [])
    ∙ append_assoc old time (32 ∷ (value ++ 10 ∷ [])))))
