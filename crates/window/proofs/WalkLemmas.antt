-- What one ask becomes leads a straight panel to where the ask leads.
use Rattle.std.proofs.Common.{◌≡◌, ◌≢◌, ℕ, suc, zero, ◌+◌, ◌-◌, ◌<◌, ◌≤◌, ◌==◌, ◌++◌, Bool, true, false, cond, not, ◌&&◌, ◌||◌, List}
use Rattle.std.proofs.Common.{[], ◌∷◌, Option}
use Rattle.std.proofs.Common.{Some, None, is_some, refl, sym, ap, ◌∙◌, subst, arith, inl, inr, ◌⊎◌, nat_lt, append_assoc}
use Rattle.std.proofs.lemmas.Bool.Decides.{nat_tests}
use Rattle.std.proofs.lemmas.Bool.{both_ways, cases_Bool, cases_eq, cases_lt, false≢true}
use Rattle.std.proofs.lemmas.List.{append-nil}
use Rattle.points.specs.declared.content.Content.{Content}
use Rattle.window.specs.declared.numbered_content.NumberedContent.{NumberedContent}
use Rattle.window.specs.Applied.{applied, and_at, contents_from}
use Rattle.window.specs.Taken.{Ask, Command, Skip, Taken, take, taken, content_at, is_key, front, accepts, accepts_skip, with_command}
use Rattle.window.specs.Window.{window}
use Rattle.window.proofs.FrontLemmas.{IsFront-front, front-is, front-take, key_new, key_other, key_stays, take-accepted, take-refused}
use Rattle.window.proofs.PlanLemmas.{IsSkipWithin-accepted, accepts-front, accepts_skip-within, content_new, content_other}
use Rattle.window.proofs.PlanLemmas.{contents_from-new, take-skip_accepted, take-skip_refused, with_skip}
use Rattle.window.proofs.TakenLemmas.{content_at-below, taken-append}
use Rattle.window.specs.Straight.{AreNext, IsStraight, applied_by}
use Rattle.window.specs.Straightened.{command_under, skip_upto, straightened, straightened_at, straightened_from}
use Rattle.window.specs.StraightenedLaws.{WalksStraight}

pub none_of : (content : Option Content) → is_some content ≡ false → content ≡ None
none_of None e = refl
none_of (Some content) e = absurd (false≢true (sym e))

-- ---- asks one after the other

-- asks that need no tolerance, act on these commands and lead to a goal
pub record Reaches (s : Taken) (asks : List Ask) (contents : List NumberedContent) (goal : Taken → Type 0) : Type 0 where
  pub next : AreNext s asks
  pub applies : applied_by s asks ≡ contents
  pub reached : goal (taken s asks)

AreNext-append : (s : Taken) (xs ys : List Ask) → AreNext s xs → AreNext (taken s xs) ys → AreNext s (xs ++ ys)
AreNext-append s [] ys first more = more
AreNext-append s (x ∷ xs) ys first more = (first.0, AreNext-append (take s x) xs ys first.1 more)

applied_by-append : (s : Taken) (xs ys : List Ask) → applied_by s (xs ++ ys) ≡ applied_by s xs ++ applied_by (taken s xs) ys
applied_by-append s [] ys = refl
applied_by-append s (x ∷ xs) ys =
    ap (λ more. applied s (take s x) ++ more) (applied_by-append (take s x) xs ys)
    ∙ sym (append_assoc (applied s (take s x)) (applied_by (take s x) xs) (applied_by (taken s (x ∷ xs)) ys))

pub Reaches-append : (s : Taken) (xs ys : List Ask) (cs ds : List NumberedContent) (middle goal : Taken → Type 0)
    → Reaches s xs cs middle → ((reached : Taken) → middle reached → Reaches reached ys ds goal) → Reaches s (xs ++ ys) (cs ++ ds) goal
Reaches-append s xs ys cs ds middle goal first more =
    let second = more (taken s xs) first.reached in
    record {
      next = AreNext-append s xs ys first.next second.next;
      applies = applied_by-append s xs ys ∙ ap (λ zs. zs ++ applied_by (taken s xs) ys) first.applies ∙ ap (λ zs. cs ++ zs) second.applies;
      reached = subst goal (sym (taken-append s xs ys)) second.reached;
    }

Reaches-none : (s : Taken) (goal : Taken → Type 0) → goal s → Reaches s [] [] goal
Reaches-none s goal here = record { next = tt; applies = refl; reached = here }

-- ---- the walk

-- everything below n has come, and n is the next number
pub record IsAt (s now : Taken) (n : ℕ) : Type 0 where
  pub next : front s ≡ n
  pub below : (k : ℕ) → k < n → content_at s k ≡ content_at now k
  pub beyond : (k : ℕ) → n ≤ k → content_at s k ≡ None

-- everything below n has come but the run of missing numbers before it
record IsBefore (s now : Taken) (first n : ℕ) : Type 0 where
  least : first ≤ front s
  most : front s ≤ n
  gap : (k : ℕ) → front s ≤ k → k < n → is_key now k ≡ false
  closed : front s ≡ n → first < n → is_key now (n - 1) ≡ true
  below : (k : ℕ) → k < n → content_at s k ≡ content_at now k
  beyond : (k : ℕ) → n ≤ k → content_at s k ≡ None

contents_from-none : (count : ℕ) (t : Taken) (n : ℕ) → ((k : ℕ) → n ≤ k → k < n + count → content_at t k ≡ None)
    → contents_from count t n ≡ []
contents_from-none zero t n none = refl
contents_from-none (suc count) t n none =
    rw (none n (omega arith) (omega arith)) (contents_from-none count t (n + 1) (λ k from below. none k (omega arith) (omega arith)))

-- a skip over missing numbers
front-over : (s : Taken) (n : ℕ) → front s ≤ n → content_at s n ≡ None → front (with_skip s n) ≡ n
front-over s n most none =
    let old = (IsFront-front s).given_up in
    front-is (with_skip s n) n (record {
      given_up = omega arith;
      missing = ap is_some none;
      least = λ k from below. absurd (omega arith);
    })

applied-over : (s : Taken) (n : ℕ) → front (with_skip s n) ≡ n → ((k : ℕ) → front s ≤ k → k < n → content_at s k ≡ None)
    → front s ≤ n → applied s (with_skip s n) ≡ []
unfolding applied
applied-over s n at none most =
    contents_from-none (front (with_skip s n) - front s) (with_skip s n) (front s) (λ k from below. none k from (omega arith))

skip-over : (s now : Taken) (first n : ℕ) → IsBefore s now first n → front s < n → n ≤ front s + window
    → Reaches s (Skip n ∷ []) [] (λ t. IsAt t now n)
skip-over s now first n is above near =
    let accepted = accepts_skip-within s n above near in
    let grown = take-skip_accepted s n accepted in
    let none : (k : ℕ) → front s ≤ k → k < n → content_at s k ≡ None =
    λ k from below. is.below k below ∙ none_of (content_at now k) (is.gap k from below) in
    let at = front-over s n is.most (is.beyond n (omega arith)) in
    record {
      next = (accepted, tt);
      applies = append-nil (applied s (take s (Skip n))) ∙ (ap (applied s) grown ∙ applied-over s n at none is.most);
      reached = subst (λ t. IsAt t now n) (sym grown) (record { next = at; below = is.below; beyond = is.beyond });
    }

-- the command of the next number
front-on : (s : Taken) (n : ℕ) (content : Content) → front s ≡ n → ((k : ℕ) → n ≤ k → content_at s k ≡ None)
    → front (with_command s n content) ≡ n + 1
front-on s n content at none =
    let old = IsFront-front s in
    let given_up = old.given_up in
    front-is (with_command s n content) (n + 1) (record {
      given_up = omega arith;
      missing = key_other s n (n + 1) content (omega arith) (ap is_some (none (n + 1) (omega arith)));
      least = λ k from below. elim (cases_eq k n) [
        | inl same ↦ subst (λ m. is_key (with_command s n content) m ≡ true) (sym same) (key_new s n content)
        | inr apart ↦ key_stays s n k content (old.least k from (omega arith))
      ];
    })

applied-on : (s : Taken) (n : ℕ) (content : Content) → front s ≡ n → front (with_command s n content) ≡ n + 1
    → applied s (with_command s n content) ≡ record { number = n; content = content } ∷ []
unfolding applied
applied-on s n content at next =
    let new = with_command s n content in
    let one : front new - front s ≡ suc zero = omega arith in
    ap (λ (count : ℕ). contents_from count new (front s)) one
    ∙ (ap (λ (from : ℕ). contents_from (suc zero) new from) at
    ∙ contents_from-new zero new n content (content_new s n content))

command-on : (s now : Taken) (n : ℕ) (content : Content) → IsAt s now n → content_at now n ≡ Some content
    → Reaches s (Command n content ∷ []) (record { number = n; content = content } ∷ []) (λ t. IsAt t now (n + 1))
command-on s now n content is found =
    let accepted = subst (λ m. accepts s m ≡ true) is.next (accepts-front s) in
    let grown = take-accepted s n content accepted in
    let next = front-on s n content is.next is.beyond in
    record {
      next = (sym is.next, tt);
      applies = append-nil (applied s (take s (Command n content))) ∙ (ap (applied s) grown ∙ applied-on s n content is.next next);
      reached = subst (λ t. IsAt t now (n + 1)) (sym grown) (record {
        next = next;
        below = λ k below. elim (cases_eq n k) [
          | inl same ↦ subst (λ m. content_at (with_command s n content) m ≡ content_at now m) same (content_new s n content ∙ sym found)
          | inr apart ↦ content_other s n k content apart ∙ is.below k (omega arith)
        ];
        beyond = λ k from. content_other s n k content (omega arith) ∙ is.beyond k (omega arith);
      });
    }

IsBefore-at : (s now : Taken) (first n : ℕ) → IsAt s now n → first ≤ n → (first < n → is_key now (n - 1) ≡ true) → IsBefore s now first n
IsBefore-at s now first n is least closed =
    let next = is.next in
    record {
      least = omega arith;
      most = omega arith;
      gap = λ k from below. absurd (omega arith);
      closed = λ at above. closed above;
      below = is.below;
      beyond = is.beyond;
    }

IsBefore-missing : (s now : Taken) (first n : ℕ) → IsBefore s now first n → is_key now n ≡ false → IsBefore s now first (n + 1)
IsBefore-missing s now first n is missing =
    let least = is.least in
    let most = is.most in
    record {
      least = least;
      most = omega arith;
      gap = λ k from below. elim (cases_eq k n) [
        | inl same ↦ subst (λ m. is_key now m ≡ false) (sym same) missing
        | inr apart ↦ is.gap k from (omega arith)
      ];
      closed = λ at above. absurd (omega arith);
      below = λ k below. elim (cases_eq k n) [
        | inl same ↦ subst (λ m. content_at s m ≡ content_at now m) (sym same)
            (is.beyond n (omega arith) ∙ sym (none_of (content_at now n) missing))
        | inr apart ↦ is.below k (omega arith)
      ];
      beyond = λ k from. is.beyond k (omega arith);
    }

-- where a run of missing numbers can end, the panel gets there
skip-step : (s now : Taken) (first n : ℕ) → IsBefore s now first n
    → (front s < n → n ≤ front s + window) → (is_key now n || n == front now) ≡ true
    → Reaches s (skip_upto first now n) [] (λ t. IsAt t now n)
skip-step s now first n is near ends = elim (cases_eq (front s) n) [
  | inl at ↦
      let here : IsAt s now n = record { next = at; below = is.below; beyond = is.beyond } in
      subst (λ xs. Reaches s xs [] (λ t. IsAt t now n)) (sym (quiet at (cases_lt first n))) (Reaches-none s (λ t. IsAt t now n) here)
  | inr apart ↦
      let least = is.least in
      let most = is.most in
      let above : front s < n = omega arith in
      let lower : nat_lt first n ≡ true = grind (arith, nat_tests) in
      let missing : is_key now (n - 1) ≡ false = is.gap (n - 1) (omega arith) (omega arith) in
      subst (λ xs. Reaches s xs [] (λ t. IsAt t now n)) (sym (rw (lower, missing, ends) refl))
      (skip-over s now first n is above (near above))
]
  where
    quiet : front s ≡ n → (first < n) ⊎ (n ≤ first) → skip_upto first now n ≡ []
    quiet at (inl above) = rw (is.closed at above) (none (nat_lt first n))
      where
        none : (b : Bool) → cond (b && false) (Skip n ∷ []) [] ≡ []
        none true = refl
        none false = refl
    quiet at (inr low) = let not_above : nat_lt first n ≡ false = grind (arith, nat_tests) in rw not_above refl

-- where none can, none comes
pub skip-none : (now : Taken) (first n : ℕ) → (is_key now n || n == front now) ≡ false → skip_upto first now n ≡ []
skip-none now first n open_gap = rw open_gap (none (nat_lt first n) (not (is_key now (n - 1))))
  where
    none : (a b : Bool) → cond (a && (b && false)) (Skip n ∷ []) [] ≡ []
    none true true = refl
    none true false = refl
    none false b = refl

-- the gaps that the front passes are no longer than the window
abbrev AreNear : Taken → ℕ → Type 0
AreNear now first = (n : ℕ) → first < n → n ≤ front now → is_key now (n - 1) ≡ false → n ≤ first + window

near-here : (s now : Taken) (first n : ℕ) → IsBefore s now first n → AreNear now first → n ≤ front now → front s < n → n ≤ front s + window
near-here s now first n is near within above =
    let least = is.least in
    omega (arith, least, near n (omega arith) within (is.gap (n - 1) (omega arith) (omega arith)))

eqb_same : (n : ℕ) → (n == n) ≡ true
eqb_same n = grind (arith, nat_tests)

eqb_apart : (n m : ℕ) → n ≢ m → (n == m) ≡ false
eqb_apart n m apart = grind (arith, nat_tests)

or_true : (b : Bool) → (b || true) ≡ true
or_true true = refl
or_true false = refl

walk : (c : ℕ) (s now : Taken) (first n : ℕ) → IsBefore s now first n → AreNear now first → first ≤ n → n + c ≡ front now
    → Reaches s (straightened_from (suc c) first now n) (contents_from c now n) (λ t. IsStraight t now)
walk zero s now first n is near least ends =
    let at : n ≡ front now = omega arith in
    let missing : content_at now n ≡ None = subst (λ m. content_at now m ≡ None) (sym at)
    (none_of (content_at now (front now)) (IsFront-front now).missing) in
    let can : (is_key now n || n == front now) ≡ true =
    subst (λ m. (is_key now n || n == m) ≡ true) at (rw (eqb_same n) (or_true (is_key now n))) in
    let there = skip-step s now first n is (near-here s now first n is near (omega arith)) can in
    let straight : Reaches s (skip_upto first now n) [] (λ t. IsStraight t now) = record {
      next = there.next;
      applies = there.applies;
      reached = record {
        next = there.reached.next ∙ at;
        below = λ k below. there.reached.below k (omega arith);
        from = λ k from. there.reached.beyond k (omega arith);
      };
    } in
    subst (λ xs. Reaches s xs [] (λ t. IsStraight t now))
    (sym (append-nil (straightened_at first now n)
    ∙ (ap (λ content. skip_upto first now n ++ command_under n content) missing ∙ append-nil (skip_upto first now n)))) straight
walk (suc c) s now first n is near least ends =
    by (content_at now n) refl (λ t before. walk c t now first (n + 1) before near (omega arith) (omega arith))
  where
    by : (content : Option Content) → content_at now n ≡ content
        → ((t : Taken) → IsBefore t now first (n + 1)
        → Reaches t (straightened_from (suc c) first now (n + 1)) (contents_from c now (n + 1)) (λ t. IsStraight t now))
        → Reaches s (straightened_from (suc (suc c)) first now n) (contents_from (suc c) now n) (λ t. IsStraight t now)
    by None found more =
        let missing : is_key now n ≡ false = ap is_some found in
        let apart : (n == front now) ≡ false = eqb_apart n (front now) (omega arith) in
        let open_gap : (is_key now n || n == front now) ≡ false = rw (missing, apart) refl in
        subst (λ xs. Reaches s xs (contents_from (suc c) now n) (λ t. IsStraight t now))
        (sym (ap (λ xs. (xs ++ command_under n (content_at now n))
        ++ straightened_from (suc c) first now (n + 1)) (skip-none now first n open_gap)
        ∙ ap (λ content. command_under n content ++ straightened_from (suc c) first now (n + 1)) found))
        (subst (λ cs. Reaches s (straightened_from (suc c) first now (n + 1)) cs (λ t. IsStraight t now))
        (sym (ap (λ content. and_at n content (contents_from c now (n + 1))) found)) (more s (IsBefore-missing s now first n is missing)))
    by (Some content) found more =
        let key : is_key now n ≡ true = ap is_some found in
        let can : (is_key now n || n == front now) ≡ true = rw key refl in
        let skipped = skip-step s now first n is (near-here s now first n is near (omega arith)) can in
        let here = Reaches-append s (skip_upto first now n) (Command n content ∷ []) [] (record { number = n; content = content } ∷ [])
        (λ t. IsAt t now n) (λ t. IsAt t now (n + 1)) skipped (λ t at. command-on t now n content at found) in
        let all = Reaches-append s (skip_upto first now n ++ Command n content ∷ []) (straightened_from (suc c) first now (n + 1))
        (record { number = n; content = content } ∷ []) (contents_from c now (n + 1))
        (λ t. IsAt t now (n + 1)) (λ t. IsStraight t now) here
        (λ t at. more t (IsBefore-at t now first (n + 1) at (omega arith) (λ above. key_again key))) in
        subst (λ xs. Reaches s xs (contents_from (suc c) now n) (λ t. IsStraight t now))
        (sym (ap (λ content. (skip_upto first now n ++ command_under n content) ++ straightened_from (suc c) first now (n + 1)) found))
        (subst (λ cs. Reaches s ((skip_upto first now n ++ Command n content ∷ [])
        ++ straightened_from (suc c) first now (n + 1)) cs (λ t. IsStraight t now))
        (sym (ap (λ content. and_at n content (contents_from c now (n + 1))) found)) all)
      where
        key_again : is_key now n ≡ true → is_key now (n + 1 - 1) ≡ true
        key_again key = let same : n + 1 - 1 ≡ n = omega arith in subst (λ m. is_key now m ≡ true) (sym same) key

-- ---- one ask

-- what is given up after an ask reaches no further than the window
pub upto-take : (t : Taken) (ask : Ask) → (take t ask).upto ≤ front t + window
upto-take t (Command number content) =
    let given_up = (IsFront-front t).given_up in
    elim (cases_Bool (accepts t number)) [
      | inl accepted ↦ let same = ap (λ (u : Taken). u.upto) (take-accepted t number content accepted) in omega (arith, same, given_up)
      | inr refused ↦ let same = ap (λ (u : Taken). u.upto) (take-refused t number content refused) in omega (arith, same, given_up)
    ]
upto-take t (Skip upto) =
    let given_up = (IsFront-front t).given_up in
    elim (cases_Bool (accepts_skip t upto)) [
      | inl accepted ↦
          let same = ap (λ (u : Taken). u.upto) (take-skip_accepted t upto accepted) in
          let within = (IsSkipWithin-accepted t upto accepted).within in
          omega (arith, same, given_up, within)
      | inr refused ↦ let same = ap (λ (u : Taken). u.upto) (take-skip_refused t upto refused) in omega (arith, same, given_up)
    ]

AreNear-take : (t : Taken) (ask : Ask) → AreNear (take t ask) (front t)
AreNear-take t ask n above within missing =
    let now = take t ask in
    let limit = upto-take t ask in
    elim (cases_lt (front t + window) n) [
      | inl far ↦ absurd (both_ways (is_key now (n - 1)) missing
          ((IsFront-front now).least (n - 1) (omega (arith, limit, far)) (omega arith)))
      | inr near ↦ near
    ]

IsBefore-straight : (s t : Taken) (ask : Ask) → IsStraight s t → IsBefore s (take t ask) (front t) (front t)
IsBefore-straight s t ask straight =
    let same = straight.next in
    record {
      least = omega arith;
      most = omega arith;
      gap = λ k from below. absurd (omega arith);
      closed = λ at above. absurd (omega arith);
      below = λ k below. straight.below k below ∙ sym (content_at-below t ask k below);
      beyond = straight.from;
    }

pub walk_stays_straight : (s t : Taken) (ask : Ask) → IsStraight s t → WalksStraight s t (take t ask)
unfolding straightened applied
walk_stays_straight s t ask straight =
    let now = take t ask in
    let rises = front-take t ask in
    let walked = walk (front now - front t) s now (front t) (front t) (IsBefore-straight s t ask straight) (AreNear-take t ask)
    (omega arith) (omega (arith, rises)) in
    record { next = walked.next; applies = walked.applies; stays = walked.reached }
