-- One value at each named time, in rising order, gives the segments of the day.
use Rattle.std.proofs.Common.{◌≡◌, ◌≢◌, ◌⊎◌, inl, inr, ⊎_elim, ℕ, zero, suc, ◌+◌, ◌-◌, ◌<◌, ◌≤◌, ◌==◌, ℤ, []}
use Rattle.std.proofs.Common.{Bool, true, false, cond, not, List, ◌∷◌, ◌++◌, length, length-append, get_or}
use Rattle.std.proofs.Common.{Option, Some, None, option_map, slice_get, refl, sym, ap, ◌∙◌, arith}
use Rattle.std.specs.List.{list_any}
use Rattle.std.proofs.lemmas.Bool.{cases_Bool, cases_eq, cases_lt, false≢true}
use Rattle.std.proofs.lemmas.Bool.Decides.{nat_tests, Decides-int_eq}
use Rattle.std.proofs.lemmas.List.{append-nil}
use Rattle.sched.specs.declared.day_list.TimeValue.{TimeValue}
use Rattle.sched.specs.Segments.{begins_at, segments_below, last_value, value_eq, with_change}

pub value_eq-same : (x : Option ℤ) → value_eq x x ≡ true
value_eq-same None = refl
value_eq-same (Some z) = (Decides-int_eq z z).1 refl

pub same_values : (x y : Option ℤ) → value_eq x y ≡ true → x ≡ y
same_values None None e = refl
same_values None (Some z) e = absurd (false≢true e)
same_values (Some z) None e = absurd (false≢true e)
same_values (Some z) (Some w) e = ap Some ((Decides-int_eq z w).0 e)

slice_get-last : (xs : List TimeValue) (x : TimeValue) → slice_get (xs ++ x ∷ []) (length (xs ++ x ∷ []) - 1) ≡ Some x
slice_get-last [] x = refl
slice_get-last (y ∷ ys) x =
    let long : length (ys ++ x ∷ []) ≡ length ys + 1 = length-append ys (x ∷ []) in
    let e : length (y ∷ (ys ++ x ∷ [])) - 1 ≡ suc (length (ys ++ x ∷ []) - 1) = omega (arith, long) in
    ap (slice_get (y ∷ (ys ++ x ∷ []))) e ∙ slice_get-last ys x

last_value-push : (xs : List TimeValue) (x : TimeValue) → last_value (xs ++ x ∷ []) ≡ Some x.value
last_value-push xs x = ap (option_map (λ (s : TimeValue). s.value)) (slice_get-last xs x)

pushed : (same : Bool) (xs : List TimeValue) (x : TimeValue) → cond (not same) (xs ++ x ∷ []) xs ≡ xs ++ cond (not same) (x ∷ []) []
pushed true xs x = sym (append-nil xs)
pushed false xs x = refl

cases_le : (k j : ℕ) → (k ≤ j) ⊎ (suc j ≤ k)
cases_le k j = ⊎_elim (λ below. inl (omega (arith, below))) (λ above. inr (omega (arith, above))) (cases_lt k (j + 1))

-- whether a number is among others
abbrev pub is_among : ℕ → List ℕ → Bool
is_among c xs = list_any (λ t. t == c) xs

eqb_true : (x y : ℕ) → (x == y) ≡ true → x ≡ y
eqb_true x y e = grind (arith, nat_tests)

record Place (xs : List ℕ) (c : ℕ) : Type 0 where
  at : ℕ
  within : at < length xs
  is : get_or xs at 0 ≡ c

place_of : (xs : List ℕ) (c : ℕ) → is_among c xs ≡ true → Place xs c
place_of [] c e = absurd (false≢true e)
place_of (x ∷ xs) c e = elim (cases_Bool (x == c)) [
  | inl here ↦ record { at = 0; within = omega arith; is = eqb_true x c here }
  | inr other ↦ let rest = place_of xs c (rw other at e) in
      record { at = suc rest.at; within = let h = rest.within in omega arith; is = rest.is }
]

not_among : (xs : List ℕ) (c : ℕ) → ((k : ℕ) → k < length xs → get_or xs k 0 ≢ c) → is_among c xs ≡ false
not_among xs c apart = elim (cases_Bool (is_among c xs)) [
  | inl among ↦ let place = place_of xs c among in absurd (apart place.at place.within place.is)
  | inr not_there ↦ not_there
]

-- times in rising order, midnight among them, with one value from each to the next
pub record Rises (value : ℕ → Option ℤ) (times : List ℕ) : Type 0 where
  pub midnight : is_among 0 times ≡ true
  pub quiet : (c : ℕ) → is_among (suc c) times ≡ false → value (suc c) ≡ value c
  pub up : (i j : ℕ) → i ≤ j → j < length times → get_or times i 0 ≤ get_or times j 0

-- the hundredths up to the i-th time
abbrev pub covered : List ℕ → ℕ → ℕ
covered times zero = 0
covered times (suc i) = suc (get_or times i 0)

module _ (value : ℕ → Option ℤ) where
  -- the value a hundredth before n is that of the last segment below n
  pub last_value-below : (c : ℕ) → last_value (segments_below value (suc c)) ≡ Some (value c)
  last_value-below zero = last_value-push [] (record { time = 0; value = value 0 })
  last_value-below (suc c) = elim (cases_Bool (value_eq (value c) (value (suc c)))) [
    | inl same ↦
        let stays : segments_below value (suc (suc c)) ≡ segments_below value (suc c) =
        rw same (append-nil (segments_below value (suc c))) in
        ap last_value stays ∙ last_value-below c ∙ ap Some (same_values (value c) (value (suc c)) same)
    | inr other ↦
        let next : TimeValue = record { time = suc c; value = value (suc c) } in
        let grows : segments_below value (suc (suc c)) ≡ segments_below value (suc c) ++ next ∷ [] = rw other refl in
        ap last_value grows ∙ last_value-push (segments_below value (suc c)) next
  ]

  -- the step at the hundredth after those that are covered
  change-next : (c : ℕ) → with_change (segments_below value c) (record { time = c; value = value c }) ≡ segments_below value (suc c)
  change-next zero = refl
  change-next (suc c) = rw (last_value-below c)
      (pushed (value_eq (value c) (value (suc c))) (segments_below value (suc c)) (record { time = suc c; value = value (suc c) }))

  -- and at one that is covered already
  change-again : (c : ℕ) → with_change (segments_below value (suc c)) (record { time = c; value = value c }) ≡ segments_below value (suc c)
  change-again c = rw (last_value-below c, value_eq-same (value c)) refl

  -- no segment begins where none does
  segments_below-gap : (a k : ℕ) → ((c : ℕ) → a ≤ c → c < a + k → begins_at value c ≡ false)
      → segments_below value (a + k) ≡ segments_below value a
  segments_below-gap a zero none = let e : a + 0 ≡ a = omega arith in ap (segments_below value) e
  segments_below-gap a (suc k) none =
      let e : a + suc k ≡ suc (a + k) = omega arith in
      let here : begins_at value (a + k) ≡ false = none (a + k) (omega arith) (omega arith) in
      let stays : segments_below value (suc (a + k)) ≡ segments_below value (a + k) = rw here (append-nil (segments_below value (a + k))) in
      ap (segments_below value) e ∙ stays ∙ segments_below-gap a k (λ c from below. none c from (omega arith))

  segments_below-to : (a b : ℕ) → a ≤ b → ((c : ℕ) → a ≤ c → c < b → begins_at value c ≡ false)
      → segments_below value b ≡ segments_below value a
  segments_below-to a b h none =
      let e : b ≡ a + (b - a) = omega arith in
      ap (segments_below value) e ∙ segments_below-gap a (b - a) (λ c from below. none c from (omega arith))

  module _ (times : List ℕ) (rises : Rises value times) where
    begins_not : (c : ℕ) → 1 ≤ c → is_among c times ≡ false → begins_at value c ≡ false
    begins_not zero h none = absurd (omega arith)
    begins_not (suc c) h none = let same = rises.quiet c none in rw (same, value_eq-same (value c)) refl

    -- between two neighbours no segment begins
    between : (j : ℕ) → suc j < length times → (c : ℕ) → suc (get_or times j 0) ≤ c → c < get_or times (suc j) 0 → begins_at value c ≡ false
    between j within c from below = begins_not c (omega arith) (not_among times c (λ k inside. ⊎_elim
        (λ before. let h = rises.up k j before (omega arith) in λ e. omega (arith, h, e))
        (λ after. let h = rises.up (suc j) k (omega (arith, after)) inside in λ e. omega (arith, h, e))
        (cases_le k j)))

    -- each time with its value gives the segments up to it
    pub change-time : (i : ℕ) → i < length times
        → with_change (segments_below value (covered times i)) (record { time = get_or times i 0; value = value (get_or times i 0) })
        ≡ segments_below value (covered times (suc i))
    change-time zero within =
        let place = place_of times 0 rises.midnight in
        let h = rises.up 0 place.at (omega arith) place.within in
        let first : get_or times 0 0 ≡ 0 = omega (arith, h, place.is) in
        rw first (change-next 0)
    change-time (suc j) within =
        let h = rises.up j (suc j) (omega arith) within in
        elim (cases_eq (get_or times j 0) (get_or times (suc j) 0)) [
          | inl same ↦ rw same (change-again (get_or times (suc j) 0))
          | inr apart ↦
              let gap = segments_below-to (suc (get_or times j 0)) (get_or times (suc j) 0) (omega (arith, h, apart)) (between j within) in
              rw (← gap) (change-next (get_or times (suc j) 0))
        ]

    past_last : (j : ℕ) → length times ≡ suc j → (c : ℕ) → suc (get_or times j 0) ≤ c → begins_at value c ≡ false
    past_last j long c from = begins_not c (omega arith) (not_among times c (λ k inside.
        let h = rises.up k j (omega (arith, long, inside)) (omega (arith, long)) in λ e. omega (arith, h, e, from)))

    -- after the last time no segment begins
    pub covered-all : (n i : ℕ) → i ≡ length times → ((k : ℕ) → k < length times → get_or times k 0 < n)
        → segments_below value (covered times i) ≡ segments_below value n
    covered-all n zero e below = let place = place_of times 0 rises.midnight in absurd (omega (arith, place.within, e))
    covered-all n (suc j) e below =
        let within : j < length times = omega (arith, e) in
        let h = below j within in
        sym (segments_below-to (suc (get_or times j 0)) n (omega (arith, h)) (λ c from under. past_last j (sym e) c from))
