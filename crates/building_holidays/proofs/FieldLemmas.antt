-- The fields from an index on.
use Rattle.std.proofs.Common.{◌≡◌, ℕ, zero, suc, ◌+◌, List, [], ◌∷◌, drop, Some, None, refl, sym, ap, ◌∙◌, arith}
use Rattle.csv.specs.Records.{field_at}

pub drop_field : (fields : List (List ℕ)) (i : ℕ) (field : List ℕ) → field_at fields i ≡ Some field
    → drop i fields ≡ field ∷ drop (i + 1) fields
unfolding field_at
drop_field [] i field e = absurd (cc e)
drop_field (first ∷ rest) zero field e = let same : first ≡ field = (cc) in ap (λ f. f ∷ rest) same
drop_field (first ∷ rest) (suc i) field e =
    let next : suc i + 1 ≡ suc (i + 1) = omega arith in
    drop_field rest i field e ∙ ap (λ n. field ∷ drop n (first ∷ rest)) (sym next)

pub drop_past : (fields : List (List ℕ)) (i : ℕ) → field_at fields i ≡ None → drop i fields ≡ []
unfolding field_at
drop_past [] zero e = refl
drop_past [] (suc i) e = refl
drop_past (first ∷ rest) zero e = absurd (cc e)
drop_past (first ∷ rest) (suc i) e = drop_past rest i e
