-- What is written for numbers that count up, one part after the other.
use Rattle.std.proofs.Common.{◌≡◌, ◌∙◌, ◌≤◌, ◌+◌, ◌-◌, ℕ, Bool, List, ◌∷◌, [], ◌++◌, Option, Some, None, cond, filter, refl, sym, ap, arith}
use Rattle.std.proofs.lemmas.List.{flat_map_more, map-id}
use Rattle.std.proofs.lemmas.List.Elements.{filter-append}
use Rattle.std.proofs.lemmas.List.FromFn.{map-range_with_len_more}
use Rattle.std.specs.List.{cons_option, filter_map, flat_map, range_with_len}

pub range-more : (a n j : ℕ) → a + n ≡ j → range_with_len a (n + 1) ≡ range_with_len a n ++ j ∷ []
range-more a n j e =
    sym (map-id (range_with_len a (n + 1))) ∙ map-range_with_len_more (λ x. x) a n j e ∙ ap (λ l. l ++ j ∷ []) (map-id (range_with_len a n))

-- with the part of one number more
pub part-more : {A : Type 0} (part : ℕ → List A) (old before after : List A) (from number : ℕ) → from ≤ number
    → before ≡ old ++ flat_map part (range_with_len from (number - from)) → after ≡ before ++ part number
    → after ≡ old ++ flat_map part (range_with_len from (number + 1 - from))
part-more part old before after from number least so_far more =
    let next : number + 1 - from ≡ number - from + 1 = omega arith in
    more
    ∙ ap (λ l. l ++ part number) so_far
    ∙ flat_map_more part old (range_with_len from (number - from)) number
    ∙ ap (λ l. old ++ flat_map part l) (sym (range-more from (number - from) number (omega (arith, least))))
    ∙ ap (λ n. old ++ flat_map part (range_with_len from n)) (sym next)

-- a test of parts
pub filter-flat_map : {A : Type 0} (p : A → Bool) (g : ℕ → List A) (xs : List ℕ)
    → flat_map (λ x. filter p (g x)) xs ≡ filter p (flat_map g xs)
filter-flat_map p g [] = refl
filter-flat_map p g (x ∷ xs) = ap (λ l. filter p (g x) ++ l) (filter-flat_map p g xs) ∙ sym (filter-append p (g x) (flat_map g xs))

filter-option : {A : Type 0} (p : A → Bool) (found : Option A) (xs : List A)
    → filter p (cons_option found []) ++ filter p xs ≡ filter p (cons_option found xs)
filter-option p None xs = refl
filter-option p (Some y) xs = sym (filter-append p (y ∷ []) xs)

pub filter-filter_map : {A : Type 0} (p : A → Bool) (f : ℕ → Option A) (xs : List ℕ)
    → flat_map (λ x. filter p (cons_option (f x) [])) xs ≡ filter p (filter_map f xs)
filter-filter_map p f [] = refl
filter-filter_map p f (x ∷ xs) =
    ap (λ l. filter p (cons_option (f x) []) ++ l) (filter-filter_map p f xs) ∙ filter-option p (f x) (filter_map f xs)

-- with one number more, if it passes
pub filter-more : (p : ℕ → Bool) (n : ℕ) (passes : Bool) (old new : List ℕ) → old ≡ filter p (range_with_len 0 n) → passes ≡ p n
    → new ≡ old ++ cond passes (n ∷ []) [] → new ≡ filter p (range_with_len 0 (n + 1))
filter-more p n passes old new so_far is more =
    more
    ∙ (λ i. so_far i ++ cond (is i) (n ∷ []) [])
    ∙ sym (filter-append p (range_with_len 0 n) (n ∷ []))
    ∙ ap (filter p) (sym (range-more 0 n n (omega arith)))
