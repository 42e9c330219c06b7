-- The segments up to a time are those that begin below the hundredth after it.
use Rattle.std.proofs.Common.{◌≡◌, ℕ, zero, suc, ◌+◌, ◌-◌, ◌<◌, ◌≤◌, ℤ, nat_le, nat_lt, Bool, true, false, ◌&&◌, cond}
use Rattle.std.proofs.Common.{List, [], ◌∷◌, ◌++◌, filter, Option, Some, refl, sym, ap, ◌∙◌, arith}
use Rattle.std.specs.List.{list_any}
use Rattle.std.proofs.lemmas.Bool.{or_parts}
use Rattle.std.proofs.lemmas.Bool.Decides.{nat_tests}
use Rattle.sched.specs.declared.day_list.TimeValue.{TimeValue}
use Rattle.sched.specs.declared.time.TheConstants.{HUNDREDTHS_A_DAY}
use Rattle.sched.specs.Segments.{begins_at, segment_at, segments_below, segments_of, last_value}
use Rattle.std.proofs.lemmas.List.{append-nil}
use Rattle.std.proofs.lemmas.List.Elements.{filter-append}
use Rattle.sched.proofs.SegmentLemmas.{last_value-below}

abbrev up_to : ℕ → TimeValue → Bool
up_to c segment = nat_le segment.time c

module _ (value : ℕ → Option ℤ) (c : ℕ) where
  -- the segment at a hundredth, if one begins there
  abbrev if_begins : ℕ → Bool → List TimeValue
  if_begins n begins = cond begins (record { time = n; value = value n } ∷ []) []

  filter-segment_at : (n : ℕ) (kept : Bool) → nat_le n c ≡ kept → filter (up_to c) (segment_at value n) ≡ cond kept (segment_at value n) []
  filter-segment_at n kept e = elim (begins_at value n) as (λ b. filter (up_to c) (if_begins n b) ≡ cond kept (if_begins n b) []) [
    | true ↦ rw e refl
    | false ↦ none kept
  ]
    where
      none : (kept : Bool) → [] ≡ cond {A = List TimeValue} kept [] []
      none true = refl
      none false = refl

  filter-below : (n : ℕ) → n ≤ suc c → filter (up_to c) (segments_below value n) ≡ segments_below value n
  filter-below zero h = refl
  filter-below (suc n) h =
      let within : nat_le n c ≡ true = grind (arith, nat_tests) in
      filter-append (up_to c) (segments_below value n) (segment_at value n)
      ∙ (λ i. filter-below n (omega arith) i ++ filter-segment_at n true within i)

  filter-past : (k : ℕ) → filter (up_to c) (segments_below value (suc c + k)) ≡ segments_below value (suc c)
  filter-past zero =
      let e : suc c + 0 ≡ suc c = omega arith in ap (λ n. filter (up_to c) (segments_below value n)) e ∙ filter-below (suc c) (omega arith)
  filter-past (suc k) =
      let e : suc c + suc k ≡ suc (suc c + k) = omega arith in
      let past : nat_le (suc c + k) c ≡ false = grind (arith, nat_tests) in
      ap (λ n. filter (up_to c) (segments_below value n)) e
      ∙ filter-append (up_to c) (segments_below value (suc c + k)) (segment_at value (suc c + k))
      ∙ (λ i. filter-past k i ++ filter-segment_at (suc c + k) false past i)
      ∙ append-nil (segments_below value (suc c))

  filter-all : (n : ℕ) → c < n → filter (up_to c) (segments_below value n) ≡ segments_below value (suc c)
  filter-all n h =
      let e : n ≡ suc c + (n - suc c) = omega arith in
      ap (λ m. filter (up_to c) (segments_below value m)) e ∙ filter-past (n - suc c)

pub last_segment : (value : ℕ → Option ℤ) (c : ℕ) → c < HUNDREDTHS_A_DAY
    → last_value (filter (λ segment. nat_le segment.time c) (segments_of value)) ≡ Some (value c)
unfolding segments_of
last_segment value c h = ap last_value (filter-all value c HUNDREDTHS_A_DAY h) ∙ last_value-below value c

not_between : (t a c : ℕ) → a ≤ c → (nat_lt a t && nat_le t c) ≡ false → nat_le t c ≡ nat_le t a
not_between t a c h e = grind (arith, nat_tests)

filter-same : (a c : ℕ) (xs : List TimeValue) → a ≤ c
    → list_any (λ segment. nat_lt a segment.time && nat_le segment.time c) xs ≡ false → filter (up_to c) xs ≡ filter (up_to a) xs
filter-same a c [] h none = refl
filter-same a c (x ∷ xs) h none =
    let same = not_between x.time a c h (or_parts (nat_lt a x.time && nat_le x.time c) _ none).0 in
    let rest = filter-same a c xs h (or_parts (nat_lt a x.time && nat_le x.time c) _ none).1 in
    λ i. cond (same i) (x ∷ rest i) (rest i)

some_is : (x y : Option ℤ) → Some x ≡ Some y → x ≡ y
some_is x y e = cc

pub stands_between : (value : ℕ → Option ℤ) (a c : ℕ) → a ≤ c → c < HUNDREDTHS_A_DAY
    → list_any (λ segment. nat_lt a segment.time && nat_le segment.time c) (segments_of value) ≡ false → value c ≡ value a
stands_between value a c h within none =
    let earlier : a < HUNDREDTHS_A_DAY = omega (arith, h, within) in
    let same = filter-same a c (segments_of value) h none in
    some_is _ _ (sym (last_segment value c within) ∙ ap last_value same ∙ last_segment value a earlier)
