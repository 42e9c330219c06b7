-- Texts that are read one after the other are the texts in order.
use Rattle.std.proofs.Common.{◌≡◌, ◌⊎◌, List, [], ◌∷◌, ◌++◌, inl, inr, None, Bool, true, false, ℕ, refl, sym, ap, ◌∙◌, subst, arith, true≢false, cond}
use Rattle.std.specs.declared.cmp.Ordering.{Ordering}
use Rattle.std.specs.declared.cmp.Ordering.TheVariants.{Equal, Greater, Less}
use Rattle.std.specs.Cmp.{nat_cmp_is, ranked}
use Rattle.std.specs.Cmp.Lexicographic.{nat_list_cmp_total, slice_cmp}
use Rattle.std.specs.List.{AllByRecursion, Contains}
use Rattle.std.specs.List.Sorted.{IsStrictlySortedBy}
use Rattle.std.specs.Ordering.{is_eq, is_ge, is_lt, nat_cmp, ordering_reverse, ordering_then}
use Rattle.std.proofs.lemmas.List.Elements.{Contains-append_left, Contains-push, Contains-push_cases}
use Rattle.std.proofs.lemmas.Map.Text.{is_eq-slice_cmp}
use Rattle.std.proofs.lemmas.Slice.Eq.{bytes_eq-Decides}
use Rattle.store.specs.Listed.{AreTexts}
use Rattle.points.specs.Texts.{Text}
use Rattle.store.proofs.TextLemmas.{contains_first, contains_none, contains_rest}
use Rattle.store_sql.specs.Naming.{Tells}
use Rattle.store_sql.specs.Texts.{AreTextsBefore, IsBefore, IsNextText, IsTextAt, after}

-- ---- the order of texts

equal_texts : (a b : Text) → slice_cmp nat_cmp a b ≡ Equal → a ≡ b
equal_texts a b is = (bytes_eq-Decides a b).0 (sym (is_eq-slice_cmp a b) ∙ ap is_eq is)

same_texts : (a : Text) → slice_cmp nat_cmp a a ≡ Equal
same_texts a = of (slice_cmp nat_cmp a a) (is_eq-slice_cmp a a ∙ (bytes_eq-Decides a a).1 refl) where
  of : (r : Ordering) → is_eq r ≡ true → r ≡ Equal
  of Equal is = refl
  of Less is = absurd (true≢false (sym is))
  of Greater is = absurd (true≢false (sym is))

turned : (a b : Text) (r : Ordering) → slice_cmp nat_cmp a b ≡ r → slice_cmp nat_cmp b a ≡ ordering_reverse r
turned a b r is = nat_list_cmp_total.antisymm b a ∙ ap ordering_reverse is

pub three_ways : (a b : Text) → IsBefore a b ⊎ ((a ≡ b) ⊎ IsBefore b a)
three_ways a b = of (slice_cmp nat_cmp a b) refl where
  of : (r : Ordering) → slice_cmp nat_cmp a b ≡ r → IsBefore a b ⊎ ((a ≡ b) ⊎ IsBefore b a)
  of Less is = inl is
  of Equal is = inr (inl (equal_texts a b is))
  of Greater is = inr (inr (turned a b Greater is))

pub not_before_itself : (a : Text) → IsBefore a a → ⊥
not_before_itself a before = let same = same_texts a in absurd (let h : Less ≡ Equal = sym before ∙ same in let n : ⊥ = cc in n)

pub before_then : (a b c : Text) → IsBefore a b → IsBefore b c → IsBefore a c
before_then a b c one two = nat_list_cmp_total.trans a b c one two

pub from_ge : (text from : Text) → (IsBefore text from → ⊥) → is_ge (slice_cmp nat_cmp text from) ≡ true
from_ge text from past = of (slice_cmp nat_cmp text from) refl where
  of : (r : Ordering) → slice_cmp nat_cmp text from ≡ r → is_ge r ≡ true
  of Less is = absurd (past is)
  of Equal is = refl
  of Greater is = refl

pub ge_from : (text from : Text) → is_ge (slice_cmp nat_cmp text from) ≡ true → IsBefore text from → ⊥
ge_from text from is before = true≢false (sym is ∙ ap is_ge before)

pub before_or_not : (a b : Text) → IsBefore a b ⊎ (IsBefore a b → ⊥)
before_or_not a b = of (slice_cmp nat_cmp a b) refl where
  of : (r : Ordering) → slice_cmp nat_cmp a b ≡ r → IsBefore a b ⊎ (IsBefore a b → ⊥)
  of Less is = inl is
  of Equal is = inr (λ before. absurd (let h : Less ≡ Equal = sym before ∙ is in let n : ⊥ = cc in n))
  of Greater is = inr (λ before. absurd (let h : Less ≡ Greater = sym before ∙ is in let n : ⊥ = cc in n))

-- what is not before a text, of one before another
pub before_far : (a from b : Text) → IsBefore a from → (IsBefore b from → ⊥) → IsBefore a b
before_far a from b before far = elim (three_ways from b) [
  | inl past ↦ before_then a from b before past
  | inr other ↦ elim other [
    | inl same ↦ subst (IsBefore a) same before
    | inr less ↦ absurd (far less)
  ]
]

-- ---- the least text after another

same_number : (n : ℕ) → nat_cmp n n ≡ Equal
same_number n = sym (nat_cmp_is n n Equal refl)

pub is_before_after : (text : Text) → IsBefore text (after text)
is_before_after [] = refl
is_before_after (x ∷ xs) = ap (λ o. ordering_then o (slice_cmp nat_cmp xs (after xs))) (same_number x) ∙ is_before_after xs

none_below : (ys : Text) → slice_cmp nat_cmp ys [] ≡ Less → ⊥
none_below [] less = absurd (let n : ⊥ = cc in n)
none_below (y ∷ ys) less = absurd (let n : ⊥ = cc in n)

not_below_zero : (y : ℕ) (ys : Text) → (o : Ordering) → o ≡ nat_cmp y 0 → ordering_then o (slice_cmp nat_cmp ys []) ≡ Less → ⊥
not_below_zero y ys Less is less = let h = ranked y 0 Less is in omega (arith, h)
not_below_zero y ys Equal is less = none_below ys less
not_below_zero y ys Greater is less = absurd (let n : ⊥ = cc in n)

first_cases : (y x : ℕ) (ys xs : Text) → (IsBefore ys (after xs) → IsBefore ys xs ⊎ (ys ≡ xs))
    → (o : Ordering) → o ≡ nat_cmp y x → ordering_then o (slice_cmp nat_cmp ys (after xs)) ≡ Less
    → IsBefore (y ∷ ys) (x ∷ xs) ⊎ (y ∷ ys ≡ x ∷ xs)
first_cases y x ys xs rest Less is less = inl (ap (λ o. ordering_then o (slice_cmp nat_cmp ys xs)) (sym is))
first_cases y x ys xs rest Equal is less = elim (rest less) [
  | inl before ↦ inl (ap (λ o. ordering_then o (slice_cmp nat_cmp ys xs)) (sym is) ∙ before)
  | inr same ↦ let first : y ≡ x = ranked y x Equal is in inr (let whole : y ∷ ys ≡ x ∷ xs = cc in whole)
]
first_cases y x ys xs rest Greater is less = absurd (let n : ⊥ = cc in n)

pub before_after : (text other : Text) → IsBefore text (after other) → IsBefore text other ⊎ (text ≡ other)
before_after [] [] before = inr refl
before_after [] (x ∷ xs) before = inl refl
before_after (y ∷ ys) [] before = absurd (not_below_zero y ys (nat_cmp y 0) refl before)
before_after (y ∷ ys) (x ∷ xs) before = first_cases y x ys xs (before_after ys xs) (nat_cmp y x) refl before

pub not_lt : (a b : Text) → is_lt (slice_cmp nat_cmp a b) ≡ false → IsBefore a b → ⊥
not_lt a b is before = true≢false (sym (ap is_lt before) ∙ is)

pub none_before_empty : (text : Text) → IsBefore text [] → ⊥
none_before_empty [] before = not_before_itself [] before
none_before_empty (x ∷ xs) before = absurd (let n : ⊥ = cc in n)

-- ---- lists that grow

from_contains : (P : Text → Type 0) (texts : List Text) → ((text : Text) → Contains texts text → P text) → AllByRecursion P texts
from_contains P [] all = tt
from_contains P (x ∷ xs) all = (all x (contains_first x xs), from_contains P xs (λ t here. all t (contains_rest x xs t here)))

all_push : (P : Text → Type 0) (texts : List Text) (x : Text) → AllByRecursion P texts → P x → AllByRecursion P (texts ++ x ∷ [])
all_push P [] x all here = (here, tt)
all_push P (y ∷ ys) x all here = (all.0, all_push P ys x all.1 here)

sorted_push : (texts : List Text) (x : Text) → IsStrictlySortedBy (slice_cmp nat_cmp) texts → AllByRecursion (λ t. IsBefore t x) texts
    → IsStrictlySortedBy (slice_cmp nat_cmp) (texts ++ x ∷ [])
unfolding IsStrictlySortedBy
sorted_push [] x sorted below = (tt, tt)
sorted_push (y ∷ ys) x sorted below = (all_push (λ t. IsBefore y t) ys x sorted.0 below.0, sorted_push ys x sorted.1 below.1)

pub texts_none : (holds : Text → Type 0) → AreTextsBefore holds [] []
unfolding IsStrictlySortedBy
texts_none holds = record {
  rise = tt;
  below = λ t here. absurd (contains_none t here);
  each = λ t here. absurd (contains_none t here);
  all = λ t is before. absurd (none_before_empty t before);
}

-- a text that comes next, and that holds
texts_more : (holds : Text → Type 0) (from x : Text) (texts : List Text) → AreTextsBefore holds from texts → IsTextAt holds from x
    → holds x → AreTextsBefore holds (after x) (texts ++ x ∷ [])
texts_more holds from x texts far at is = record {
  rise = sorted_push texts x far.rise (from_contains (λ t. IsBefore t x) texts (λ t here. before_far t from x (far.below t here) at.past));
  below = λ t here. elim (Contains-push_cases texts x t here) [
    | inl old ↦ before_then t x (after x) (before_far t from x (far.below t old) at.past) (is_before_after x)
    | inr same ↦ subst (λ y. IsBefore y (after x)) same (is_before_after x)
  ];
  each = λ t here. elim (Contains-push_cases texts x t here) [
    | inl old ↦ far.each t old
    | inr same ↦ subst holds same is
  ];
  all = λ t here before. elim (before_after t x before) [
    | inl lower ↦ elim (before_or_not t from) [
      | inl old ↦ Contains-append_left texts (x ∷ []) t (far.all t here old)
      | inr past ↦ absurd (at.least t here past lower)
    ]
    | inr same ↦ subst (λ y. Contains (texts ++ x ∷ []) y) (sym same) (Contains-push texts x)
  ];
}

-- a text that comes next, and that does not hold
pub texts_past : (holds : Text → Type 0) (from x : Text) (texts : List Text) → AreTextsBefore holds from texts → IsTextAt holds from x
    → (holds x → ⊥) → AreTextsBefore holds (after x) texts
texts_past holds from x texts far at not_held = record {
  rise = far.rise;
  below = λ t here. before_then t x (after x) (before_far t from x (far.below t here) at.past) (is_before_after x);
  each = far.each;
  all = λ t here before. elim (before_after t x before) [
    | inl lower ↦ elim (before_or_not t from) [
      | inl old ↦ far.all t here old
      | inr past ↦ absurd (at.least t here past lower)
    ]
    | inr same ↦ absurd (not_held (subst holds same here))
  ];
}

pub texts_all : (holds : Text → Type 0) (from : Text) (texts : List Text) → AreTextsBefore holds from texts → IsNextText holds from None
    → AreTexts holds texts
texts_all holds from texts far none = record {
  rise = far.rise;
  each = λ t. (
    (λ here. far.each t here),
    (λ is. elim (before_or_not t from) [
      | inl before ↦ far.all t is before
      | inr past ↦ absurd (none t is past)
    ]),
  );
}

-- a text that comes next, and whether it holds
pub texts_step : (holds : Text → Type 0) (from x : Text) (texts now : List Text) (stands : Bool) → AreTextsBefore holds from texts
    → IsTextAt holds from x → Tells (holds x) stands
    → now ≡ cond stands (texts ++ x ∷ []) texts → AreTextsBefore holds (after x) now
texts_step holds from x texts now true far at tells is =
    subst (AreTextsBefore holds (after x)) (sym is) (texts_more holds from x texts far at (tells.held refl))
texts_step holds from x texts now false far at tells is =
    subst (AreTextsBefore holds (after x)) (sym is) (texts_past holds from x texts far at (tells.gone refl))

-- what was seen of each text before one, once the next has been seen
pub seen_more : (holds seen : Text → Type 0) (from x : Text) → ((t : Text) → holds t → IsBefore t from → seen t) → IsTextAt holds from x
    → seen x → (t : Text) → holds t → IsBefore t (after x) → seen t
seen_more holds seen from x far at here t is before = elim (before_after t x before) [
  | inl lower ↦ elim (before_or_not t from) [
    | inl old ↦ far t is old
    | inr past ↦ absurd (at.least t is past lower)
  ]
  | inr same ↦ subst seen (sym same) here
]

pub seen_all : (holds seen : Text → Type 0) (from : Text) → ((t : Text) → holds t → IsBefore t from → seen t) → IsNextText holds from None
    → (t : Text) → holds t → seen t
seen_all holds seen from far none t is = elim (before_or_not t from) [
  | inl before ↦ far t is before
  | inr past ↦ absurd (none t is past)
]
