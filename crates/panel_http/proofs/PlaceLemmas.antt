-- The text of the places, one place after the other.
use Rattle.std.proofs.Common.{◌≡◌, ◌∙◌, ◌≤◌, ◌+◌, ◌-◌, ℕ, List, [], ◌∷◌, ◌++◌, codes, sym, ap, arith}
use Rattle.std.proofs.lemmas.List.{flat_map_more, map-id}
use Rattle.std.proofs.lemmas.List.FromFn.{map-range_with_len_more}
use Rattle.std.specs.FinMap.{get}
use Rattle.std.specs.List.{flat_map, range_with_len}
use Rattle.points.specs.PriorityArray.{Places}
use Rattle.panel_http.specs.Responses.{place_text}

-- a place behind a comma
abbrev pub other_place : Places → ℕ → List ℕ
other_place places priority = codes "," ++ place_text (get places priority)

-- the places after the first, up to one
abbrev pub others_before : Places → ℕ → List ℕ
others_before places priority = flat_map (other_place places) (range_with_len 2 (priority - 2))

range-more : (a n j : ℕ) → a + n ≡ j → range_with_len a (n + 1) ≡ range_with_len a n ++ j ∷ []
range-more a n j e =
    sym (map-id (range_with_len a (n + 1))) ∙ map-range_with_len_more (λ x. x) a n j e ∙ ap (λ l. l ++ j ∷ []) (map-id (range_with_len a n))

-- one place more, behind whatever came before
pub others-more : (places : Places) (priority : ℕ) (before text : List ℕ) → 2 ≤ priority → text ≡ before ++ others_before places priority
    → text ++ other_place places priority ≡ before ++ others_before places (priority + 1)
others-more places priority before text least so_far =
    let others = flat_map (other_place places) in
    let next : priority + 1 - 2 ≡ priority - 2 + 1 = omega arith in
    ap (λ l. l ++ other_place places priority) so_far
    ∙ flat_map_more (other_place places) before (range_with_len 2 (priority - 2)) priority
    ∙ ap (λ l. before ++ others l) (sym (range-more 2 (priority - 2) priority (omega arith)))
    ∙ ap (λ n. before ++ others (range_with_len 2 n)) (sym next)
