-- What an ask becomes, by the contents that it applies.
use Rattle.std.proofs.Common.{◌≡◌, ℕ, suc, zero, ◌+◌, ◌-◌, ◌<◌, ◌≤◌, ◌==◌, ◌++◌, Bool, true, false, cond, not, ◌&&◌, ◌||◌, [], ◌∷◌}
use Rattle.std.proofs.Common.{Option}
use Rattle.std.proofs.Common.{Some, None, is_some, refl, sym, ap, ◌∙◌, subst, arith, inl, inr, ◌⊎◌, nat_lt}
use Rattle.std.proofs.lemmas.Bool.Decides.{nat_tests}
use Rattle.std.proofs.lemmas.Bool.{both_ways, cases_Bool, cases_eq, cases_lt}
use Rattle.std.proofs.lemmas.List.{append-nil}
use Rattle.points.specs.declared.content.Content.{Content}
use Rattle.window.specs.Applied.{applied, and_at, contents_from}
use Rattle.window.specs.Taken.{Ask, Command, Skip, Taken, take, content_at, is_key, front, accepts}
use Rattle.window.specs.Window.{window}
use Rattle.window.proofs.AppliedLemmas.{content_at-take_command, content_at-take_skip}
use Rattle.window.proofs.FrontLemmas.{EndsInWindow, IsFront-front, IsWithin-accepted, take-refused}
use Rattle.window.specs.Between.{asks_between, skip_to}
use Rattle.window.specs.Straightened.{command_under, skip_upto, straightened, straightened_at, straightened_from}
use Rattle.window.proofs.WalkLemmas.{none_of, skip-none, upto-take}

record IsPast (now : Taken) (first next n : ℕ) : Type 0 where
  least : first ≤ next
  most : next ≤ n
  gap : (k : ℕ) → next ≤ k → k < n → is_key now k ≡ false
  closed : next ≡ n → first < n → is_key now (n - 1) ≡ true

eqb_same : (n : ℕ) → (n == n) ≡ true
eqb_same n = grind (arith, nat_tests)

eqb_apart : (n m : ℕ) → (n ≡ m → ⊥) → (n == m) ≡ false
eqb_apart n m apart = grind (arith, nat_tests)

or_true : (b : Bool) → (b || true) ≡ true
or_true true = refl
or_true false = refl

skip-straightened : (now : Taken) (first next n : ℕ) → IsPast now first next n → (is_key now n || n == front now) ≡ true
    → skip_upto first now n ≡ skip_to next n
skip-straightened now first next n is ends = elim (cases_eq next n) [
  | inl at ↦
      let level : nat_lt next n ≡ false = grind (arith, nat_tests) in
      quiet at (cases_lt first n) ∙ rw level refl
  | inr apart ↦
      let least = is.least in
      let most = is.most in
      let lower : nat_lt first n ≡ true = grind (arith, nat_tests) in
      let above : nat_lt next n ≡ true = grind (arith, nat_tests) in
      let missing : is_key now (n - 1) ≡ false = is.gap (n - 1) (omega arith) (omega arith) in
      rw (lower, missing, ends, above) refl
]
  where
    none : (b : Bool) → cond (b && false) (Skip n ∷ []) [] ≡ []
    none true = refl
    none false = refl

    quiet : next ≡ n → (first < n) ⊎ (n ≤ first) → skip_upto first now n ≡ []
    quiet at (inl above) = rw (is.closed at above) (none (nat_lt first n))
    quiet at (inr low) = let not_above : nat_lt first n ≡ false = grind (arith, nat_tests) in rw not_above refl

asks_between-from : (c : ℕ) (now : Taken) (first next n : ℕ) → IsPast now first next n → n + c ≡ front now
    → straightened_from (suc c) first now n ≡ asks_between next (contents_from c now n) (front now)
asks_between-from zero now first next n is ends =
    let at : n ≡ front now = omega arith in
    let missing : content_at now n ≡ None = subst (λ m. content_at now m ≡ None) (sym at)
    (none_of (content_at now (front now)) (IsFront-front now).missing) in
    let can : (is_key now n || n == front now) ≡ true =
    subst (λ m. (is_key now n || n == m) ≡ true) at (rw (eqb_same n) (or_true (is_key now n))) in
    append-nil (straightened_at first now n)
    ∙ (ap (λ content. skip_upto first now n ++ command_under n content) missing
    ∙ (append-nil (skip_upto first now n)
    ∙ (skip-straightened now first next n is can ∙ ap (skip_to next) at)))
asks_between-from (suc c) now first next n is ends =
    by (content_at now n) refl (λ m past. asks_between-from c now first m (n + 1) past (omega arith))
  where
    by : (content : Option Content) → content_at now n ≡ content
        → ((m : ℕ) → IsPast now first m (n + 1) → straightened_from (suc c) first now (n + 1)
        ≡ asks_between m (contents_from c now (n + 1)) (front now))
        → straightened_from (suc (suc c)) first now n ≡ asks_between next (contents_from (suc c) now n) (front now)
    by None found more =
        let least = is.least in
        let most = is.most in
        let missing : is_key now n ≡ false = ap is_some found in
        let apart : (n == front now) ≡ false = eqb_apart n (front now) (λ same. omega arith) in
        let open_gap : (is_key now n || n == front now) ≡ false = rw (missing, apart) refl in
        ap (λ xs. (xs ++ command_under n (content_at now n))
        ++ straightened_from (suc c) first now (n + 1)) (skip-none now first n open_gap)
        ∙ (ap (λ content. command_under n content ++ straightened_from (suc c) first now (n + 1)) found
        ∙ (more next (record {
          least = least;
          most = omega arith;
          gap = λ k from below. elim (cases_eq k n) [
            | inl same ↦ subst (λ m. is_key now m ≡ false) (sym same) missing
            | inr other ↦ is.gap k from (omega arith)
          ];
          closed = λ at above. absurd (omega arith);
        })
        ∙ sym (ap (λ content. asks_between next (and_at n content (contents_from c now (n + 1))) (front now)) found)))
    by (Some content) found more =
        let least = is.least in
        let most = is.most in
        let key : is_key now n ≡ true = ap is_some found in
        let can : (is_key now n || n == front now) ≡ true = rw key refl in
        let back : n + 1 - 1 ≡ n = omega arith in
        ap (λ content. (skip_upto first now n ++ command_under n content) ++ straightened_from (suc c) first now (n + 1)) found
        ∙ (ap (λ xs. (xs ++ Command n content ∷ [])
        ++ straightened_from (suc c) first now (n + 1)) (skip-straightened now first next n is can)
        ∙ (ap (λ rest. (skip_to next n ++ Command n content ∷ []) ++ rest) (more (n + 1) (record {
          least = omega arith;
          most = omega arith;
          gap = λ k from below. absurd (omega arith);
          closed = λ at above. subst (λ m. is_key now m ≡ true) (sym back) key;
        }))
        ∙ sym (ap (λ content. asks_between next (and_at n content (contents_from c now (n + 1))) (front now)) found)))

-- what an ask becomes, by the contents that it applies
pub straightened-asks_between : (before now : Taken) → front before ≤ front now
    → straightened before now ≡ asks_between (front before) (applied before now) (front now)
unfolding straightened applied
straightened-asks_between before now rises =
    asks_between-from (front now - front before) now (front before) (front before) (front before) (record {
      least = omega arith;
      most = omega arith;
      gap = λ k from below. absurd (omega arith);
      closed = λ at above. absurd (omega arith);
    }) (omega (arith, rises))

-- an ask moves the front by no more than the window
pub front-near : (t : Taken) (ask : Ask) → EndsInWindow t → front (take t ask) ≤ front t + window
front-near t ask ends =
    let now = take t ask in
    let last = front t + window in
    let limit = upto-take t ask in
    elim (cases_lt last (front now)) [
      | inl past ↦ absurd (both_ways (is_key now last) (free ask) ((IsFront-front now).least last limit past))
      | inr near ↦ near
    ]
  where
    free : (ask : Ask) → is_key (take t ask) (front t + window) ≡ false
    free (Skip upto) = ap is_some (content_at-take_skip t upto (front t + window)) ∙ ends.none (front t + window) (omega arith)
    free (Command m content) = elim (cases_Bool (accepts t m)) [
      | inl accepted ↦
          let below = (IsWithin-accepted t m accepted).below in
          ap is_some (content_at-take_command t m (front t + window) content (omega (arith, below)))
          ∙ ends.none (front t + window) (omega arith)
      | inr refused ↦
          ap (λ u. is_key u (front t + window)) (take-refused t m content refused) ∙ ends.none (front t + window) (omega arith)
    ]
