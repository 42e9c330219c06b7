-- Places that are filled one after the other, from 1 on.
use Rattle.std.proofs.Common.{◌≡◌, ◌∙◌, ℕ, ◌+◌, ◌≤◌, ◌==◌, ◌||◌, ◌&&◌, Bool, true, false, cond, Option, Some, None, nat_lt, inl, inr, refl, sym, ap, arith}
use Rattle.std.proofs.lemmas.Bool.{cases_Bool}
use Rattle.std.proofs.lemmas.Bool.Decides.{Decides-eqb, nat_tests}
use Rattle.store_copy.specs.Named.{or_else}
use Rattle.store_copy.proofs.NameLemmas.{merged}

-- a number from 1 on, before another
abbrev pub is_before : ℕ → ℕ → Bool
is_before past n = nat_lt n past && nat_lt 0 n

-- what stands at a number, where those before another are filled
abbrev pub filled : {A : Type 0} → Bool → ℕ → (ℕ → Option A) → Option A → ℕ → Option A
filled same past at first n = cond (same && is_before past n) (or_else (at n) first) first

pub or_else-again : {A : Type 0} (x y : Option A) → or_else x (or_else x y) ≡ or_else x y
or_else-again None y = refl
or_else-again (Some x) y = refl

pub or_else-same : {A : Type 0} (x : Option A) → or_else x x ≡ x
or_else-same None = refl
or_else-same (Some x) = refl

pub or_else-none : {A : Type 0} (x : Option A) → or_else x None ≡ x
or_else-none None = refl
or_else-none (Some x) = refl

both_parts : (same here : Bool) → (same && here) ≡ true → here ≡ true
both_parts true here is = is
both_parts false true is = refl
both_parts false false is = is

never : {A : Type 0} (b : Bool) (x y : A) → cond (b && false) x y ≡ y
never true x y = refl
never false x y = refl

before-next : (past n : ℕ) → 1 ≤ past → (is_before past n || past == n) ≡ is_before (past + 1) n
before-next past n least = grind (arith, nat_tests)

under : (same a b c : Bool) → (a || b) ≡ c → ((same && a) || (same && b)) ≡ (same && c)
under true a b c is = is
under false a b c is = refl

-- none is filled yet
pub filled-none : {A : Type 0} (same : Bool) (at : ℕ → Option A) (first : Option A) (n : ℕ) → filled same 1 at first n ≡ first
filled-none same at first n = ap (λ b. cond (same && b) (or_else (at n) first) first) none ∙ never same (or_else (at n) first) first
  where
    none : is_before 1 n ≡ false
    none = grind (arith, nat_tests)

pub fill-step : {A : Type 0} (same : Bool) (at : ℕ → Option A) (past n : ℕ) (first old now : Option A) → 1 ≤ past
    → old ≡ filled same past at first n → now ≡ cond (same && past == n) (or_else (at past) old) old
    → now ≡ filled same (past + 1) at first n
fill-step same at past n first old now least was is =
    let there : (same && past == n) ≡ true → at past ≡ at n = λ e. ap at ((Decides-eqb past n).0 (both_parts same (past == n) e)) in
    merged (or_else (at past)) (same && is_before past n) (same && past == n) (or_else (at n) first) first old now
    (λ e. ap (λ x. or_else x (or_else (at n) first)) (there e) ∙ or_else-again (at n) first)
    (λ e. ap (λ x. or_else x first) (there e))
    was is
    ∙ ap (λ b. cond b (or_else (at n) first) first) (under same (is_before past n) (past == n) (is_before (past + 1) n) (before-next past n least))

-- nothing stands past those that are filled
pub fill-whole : {A : Type 0} (same : Bool) (at : ℕ → Option A) (past n : ℕ) (first : Option A) → (is_before past n ≡ false → at n ≡ None)
    → filled same past at first n ≡ cond same (or_else (at n) first) first
fill-whole same at past n first empty = elim (cases_Bool (is_before past n)) [
  | inl here ↦ ap (λ b. cond (same && b) (or_else (at n) first) first) here ∙ always same (or_else (at n) first) first
  | inr other ↦
      ap (λ b. cond (same && b) (or_else (at n) first) first) other ∙ never same (or_else (at n) first) first
      ∙ sym (unchanged same first) ∙ ap (λ o. cond same (or_else o first) first) (sym (empty other))
]
  where
    always : {A : Type 0} (b : Bool) (x y : Option A) → cond (b && true) x y ≡ cond b x y
    always true x y = refl
    always false x y = refl

    unchanged : {A : Type 0} (b : Bool) (x : Option A) → cond b x x ≡ x
    unchanged true x = refl
    unchanged false x = refl
