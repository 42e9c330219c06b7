-- Numbers that pass a test, from a first to before an end.
use Rattle.std.proofs.Common.{◌≡◌, ℕ, zero, suc, ◌+◌, ◌<◌, ◌≤◌, Bool, true, false, inl, inr, refl, sym, ap, ◌∙◌, arith}
use Rattle.std.proofs.lemmas.Bool.{and_from, and_parts, cases_Bool, false≢true, or_cases, or_left, or_right}
use Rattle.std.proofs.lemmas.Bool.{leb-true, le-leb}
use Rattle.std.proofs.lemmas.Bool.Decides.{leb_tells, nat_tests}
use Rattle.building_hints.specs.EntryDays.{some_between}

-- two tests that follow from each other are one
pub same_test : (a b : Bool) → (a ≡ true → b ≡ true) → (b ≡ true → a ≡ true) → a ≡ b
same_test true b one two = sym (one refl)
same_test false true one two = two refl
same_test false false one two = refl

-- a number that passes
abbrev pub Passes : ℕ → ℕ → (ℕ → Bool) → Type 0
Passes first end test = (n : ℕ) × (first ≤ n) × (n < end) × (test n ≡ true)

pub passes-some : (first end : ℕ) (test : ℕ → Bool) → some_between first end test ≡ true → Passes first end test
unfolding some_between
passes-some first zero test e = absurd (false≢true e)
passes-some first (suc n) test e = elim (or_cases _ _ e) [
  | inl here ↦ let both = and_parts _ _ here in (n, leb-true first n both.0, omega arith, both.1)
  | inr before ↦ let it = passes-some first n test before in (it.0, it.1, omega (arith, it.2), it.3)
]

pub some-passes : (first end : ℕ) (test : ℕ → Bool) (n : ℕ) → first ≤ n → n < end → test n ≡ true → some_between first end test ≡ true
unfolding some_between
some-passes first zero test n from to e = absurd (omega arith)
some-passes first (suc end) test n from to e = elim (leb_tells end n) [
  | inl last ↦
      let same : n ≡ end = omega (arith, last.1) in
      or_left _ _ (and_from _ _ (le-leb first end (omega (arith, same))) (rw (sym same) e))
  | inr before ↦ or_right _ _ (some-passes first end test n from (omega (arith, before.1)) e)
]

-- one more number that fails
pub some-fails : (first end : ℕ) (test : ℕ → Bool) → some_between first end test ≡ false → test end ≡ false → some_between first (end + 1) test ≡ false
unfolding some_between
some-fails first end test before here = grind (arith, nat_tests)

pub none_at_first : (first : ℕ) (test : ℕ → Bool) → some_between first first test ≡ false
none_at_first first test = elim (cases_Bool (some_between first first test)) [
  | inl some ↦ let it = passes-some first first test some in absurd (omega (arith, it.1, it.2))
  | inr none ↦ none
]

pub none_before : (first end : ℕ) (test : ℕ → Bool) → end ≤ first → some_between first end test ≡ false
none_before first end test h = elim (cases_Bool (some_between first end test)) [
  | inl some ↦ let it = passes-some first end test some in absurd (omega (arith, it.1, it.2))
  | inr none ↦ none
]

-- a loop has come to the end
pub none_in_all : (first at end : ℕ) (test : ℕ → Bool) → end ≤ at → (first ≤ end → at ≤ end) → some_between first at test ≡ false
    → some_between first end test ≡ false
none_in_all first at end test past within none = elim (leb_tells first end) [
  | inl some ↦ let up_to = within some.1 in let same : at ≡ end = omega arith in ap (λ n. some_between first n test) (sym same) ∙ none
  | inr over ↦ none_before first end test (omega (arith, over.1))
]
