-- The commands that are still parked come at the end, and are parked there.
use Rattle.std.proofs.Common.{◌≡◌, ℕ, suc, zero, ◌+◌, ◌<◌, ◌≤◌, ◌++◌, true, List, [], ◌∷◌}
use Rattle.std.proofs.Common.{map, Option}
use Rattle.std.proofs.Common.{Some, None, is_some, refl, sym, ap, ◌∙◌, subst, arith, inl, inr}
use Rattle.std.proofs.lemmas.Bool.{cases_eq, cases_lt, false≢true}
use Rattle.points.specs.declared.content.Content.{Content}
use Rattle.window.specs.declared.numbered_content.NumberedContent.{NumberedContent}
use Rattle.window.specs.Applied.{contents_from}
use Rattle.window.specs.Taken.{Ask, Command, Skip, Taken, take, taken, content_at, is_key, front, accepts, with_command}
use Rattle.window.specs.Window.{window}
use Rattle.window.proofs.FrontLemmas.{EndsInWindow, IsFront-front, take-accepted}
use Rattle.window.proofs.PlanLemmas.{accepts-missing, applied-same_front, content_new, content_other, front-parked}
use Rattle.window.specs.Straight.{IsStraight, applied_by}
use Rattle.window.specs.Parked.{command_of, parked_asks}
use Rattle.window.proofs.WalkLemmas.{none_of}

-- the same front and the same contents
pub record IsWhole (s t : Taken) : Type 0 where
  pub next : front s ≡ front t
  pub same : (number : ℕ) → content_at s number ≡ content_at t number

-- a command that is accepted past the front
abbrev pub IsAhead : Taken → Ask → Type 0
IsAhead t (Command number content) = (accepts t number ≡ true) × (front t < number)
IsAhead t (Skip upto) = ⊥

abbrev pub AreAhead : Taken → List Ask → Type 0
AreAhead t [] = Unit {0}
AreAhead t (ask ∷ asks) = IsAhead t ask × AreAhead (take t ask) asks

-- what is parked below n has come
record IsFilled (s t : Taken) (n : ℕ) : Type 0 where
  next : front s ≡ front t
  below : (k : ℕ) → k < n → content_at s k ≡ content_at t k
  beyond : (k : ℕ) → n ≤ k → content_at s k ≡ None

record Fills (s t : Taken) (asks : List Ask) (n : ℕ) : Type 0 where
  ahead : AreAhead s asks
  applies : applied_by s asks ≡ []
  filled : IsFilled (taken s asks) t n

entry_at : ℕ → Content → NumberedContent
entry_at n content = record { number = n; content = content }

IsFilled-none : (s t : Taken) (n : ℕ) → IsFilled s t n → content_at t n ≡ None → IsFilled s t (n + 1)
IsFilled-none s t n is none = record {
  next = is.next;
  below = λ k below. elim (cases_eq n k) [
    | inl same ↦ subst (λ m. content_at s m ≡ content_at t m) same (is.beyond n (omega arith) ∙ sym none)
    | inr apart ↦ is.below k (omega arith)
  ];
  beyond = λ k from. is.beyond k (omega arith);
}

IsFilled-some : (s t : Taken) (n : ℕ) (content : Content) → IsFilled s t n → front s < n → content_at t n ≡ Some content
    → IsFilled (with_command s n content) t (n + 1)
IsFilled-some s t n content is past found = record {
  next = front-parked s n content past ∙ is.next;
  below = λ k below. elim (cases_eq n k) [
    | inl same ↦ subst (λ m. content_at (with_command s n content) m ≡ content_at t m) same (content_new s n content ∙ sym found)
    | inr apart ↦ content_other s n k content apart ∙ is.below k (omega arith)
  ];
  beyond = λ k from. content_other s n k content (omega arith) ∙ is.beyond k (omega arith);
}

fill : (c : ℕ) (s t : Taken) (n : ℕ) → IsFilled s t n → front t ≤ n → n + c ≤ front t + window
    → Fills s t (map command_of (contents_from c t n)) (n + c)
fill zero s t n is least within =
    let none : n ≡ n + zero = omega arith in
    record { ahead = tt; applies = refl; filled = subst (λ m. IsFilled s t m) none is }
fill (suc c) s t n is least within =
    by (content_at t n) refl (λ u filled.
    let moved : (n + 1) + c ≡ n + suc c = omega arith in
    subst (λ m. Fills u t (map command_of (contents_from c t (n + 1))) m) moved (fill c u t (n + 1) filled (omega arith) (omega arith)))
  where
    by : (content : Option Content) → content_at t n ≡ content
        → ((u : Taken) → IsFilled u t (n + 1) → Fills u t (map command_of (contents_from c t (n + 1))) (n + suc c))
        → Fills s t (map command_of (contents_from (suc c) t n)) (n + suc c)
    by None found more = rw found (more s (IsFilled-none s t n is found))
    by (Some content) found more =
        let next = is.next in
        let apart : front s < n = elim (cases_eq (front t) n) [
          | inl same ↦ absurd (false≢true (sym (IsFront-front t).missing ∙ (ap (is_key t) same ∙ ap is_some found)))
          | inr other ↦ omega arith
        ] in
        let accepted = accepts-missing s n (ap is_some (is.beyond n (omega arith))) (omega arith) (omega arith) in
        let grown = take-accepted s n content accepted in
        let rest = more (take s (Command n content))
        (subst (λ u. IsFilled u t (n + 1)) (sym grown) (IsFilled-some s t n content is apart found)) in
        rw found (record {
          ahead = ((accepted, apart), rest.ahead);
          applies = ap (λ first. first ++ applied_by (take s (Command n content)) (map command_of (contents_from c t (n + 1))))
              (applied-same_front s (take s (Command n content)) (ap front grown ∙ front-parked s n content apart))
              ∙ rest.applies;
          filled = rest.filled;
        })

-- with what is parked a straight panel is whole
pub record Completes (s t : Taken) : Type 0 where
  pub ahead : AreAhead s (parked_asks t)
  pub applies : applied_by s (parked_asks t) ≡ []
  pub whole : IsWhole (taken s (parked_asks t)) t

pub Completes-straight : (s t : Taken) → IsStraight s t → EndsInWindow t → Completes s t
Completes-straight s t straight ends =
    let fills = fill window s t (front t) (record { next = straight.next; below = straight.below; beyond = straight.from })
    (omega arith) (omega arith) in
    record {
      ahead = fills.ahead;
      applies = fills.applies;
      whole = record {
        next = fills.filled.next;
        same = λ number. elim (cases_lt number (front t + window)) [
          | inl near ↦ fills.filled.below number near
          | inr past ↦ fills.filled.beyond number past ∙ sym (none_of (content_at t number) (ends.none number past))
        ];
      };
    }
