-- What is found of the places, one place after the other.
use Rattle.std.proofs.Common.{◌≡◌, ◌∙◌, ◌≤◌, ◌+◌, ◌-◌, ℕ, List, [], ◌∷◌, ◌++◌, sym, ap, arith}
use Rattle.std.proofs.lemmas.List.{flat_map_more, map-id}
use Rattle.std.proofs.lemmas.List.FromFn.{map-range_with_len_more}
use Rattle.std.specs.List.{flat_map, range_with_len}

range-more : (a n j : ℕ) → a + n ≡ j → range_with_len a (n + 1) ≡ range_with_len a n ++ j ∷ []
range-more a n j e =
    sym (map-id (range_with_len a (n + 1))) ∙ map-range_with_len_more (λ x. x) a n j e ∙ ap (λ l. l ++ j ∷ []) (map-id (range_with_len a n))

-- with the part of one priority more
pub part-more : {A : Type 0} (part : ℕ → List A) (old before after : List A) (priority : ℕ) → 1 ≤ priority
    → before ≡ old ++ flat_map part (range_with_len 1 (priority - 1)) → after ≡ before ++ part priority
    → after ≡ old ++ flat_map part (range_with_len 1 (priority + 1 - 1))
part-more part old before after priority least so_far more =
    let next : priority + 1 - 1 ≡ priority - 1 + 1 = omega arith in
    more
    ∙ ap (λ l. l ++ part priority) so_far
    ∙ flat_map_more part old (range_with_len 1 (priority - 1)) priority
    ∙ ap (λ l. old ++ flat_map part l) (sym (range-more 1 (priority - 1) priority (omega arith)))
    ∙ ap (λ n. old ++ flat_map part (range_with_len 1 n)) (sym next)
