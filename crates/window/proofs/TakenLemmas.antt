-- Asks one after the other, and what stands under a number after one ask.
use Rattle.std.proofs.Common.{◌≡◌, ◌≢◌, ℕ, ◌<◌, ◌≤◌, ◌&&◌, ◌++◌, ◌∷◌, [], List, Bool, true, false, cond, Option, Some}
use Rattle.std.proofs.Common.{None, is_some, refl, sym, ap, ◌∙◌, subst, arith, inl, inr, nat_lt, max}
use Rattle.std.proofs.lemmas.Bool.Decides.{nat_tests}
use Rattle.std.proofs.lemmas.Bool.{cases_Bool, cases_eq, false≢true}
use Rattle.points.specs.declared.content.Content.{Content}
use Rattle.window.specs.declared.numbered_content.NumberedContent.{NumberedContent}
use Rattle.window.specs.Plan.{parked_by}
use Rattle.window.specs.Taken.{Ask, Command, Skip, Taken, take, taken, content_at, is_key, front, accepts, accepts_skip}
use Rattle.window.proofs.AppliedLemmas.{content_at-take_command, content_at-take_accepted, content_at-take_skip}
use Rattle.window.proofs.FrontLemmas.{IsFront-front, IsWithin-accepted, front-take, take-accepted, take-refused}
use Rattle.window.proofs.PlanLemmas.{accepts-below, front-parked, IsSkipWithin-accepted, take-skip_accepted, take-skip_refused}

-- asks one after the other
pub taken-append : (t : Taken) (xs ys : List Ask) → taken t (xs ++ ys) ≡ taken (taken t xs) ys
taken-append t [] ys = refl
taken-append t (x ∷ xs) ys = taken-append (take t x) xs ys

some_none : {A : Type 0} (a : A) → Some a ≡ None → ⊥
some_none a e = cc

-- a number below the front keeps what stands under it
pub content_at-below : (t : Taken) (ask : Ask) (number : ℕ) → number < front t → content_at (take t ask) number ≡ content_at t number
content_at-below t (Skip upto) number below = content_at-take_skip t upto number
content_at-below t (Command m content) number below =
    elim (cases_eq m number) [
      | inl same ↦
          let under : m < front t = omega (arith, below, same) in
          ap (λ u. content_at u number) (take-refused t m content (accepts-below t m under))
      | inr apart ↦ content_at-take_command t m number content apart
    ]

-- where nothing stands after an ask, nothing stood before it
pub content_at-none : (t : Taken) (ask : Ask) (number : ℕ) → content_at (take t ask) number ≡ None → content_at t number ≡ None
content_at-none t (Skip upto) number none = sym (content_at-take_skip t upto number) ∙ none
content_at-none t (Command m content) number none =
    elim (cases_eq m number) [
      | inl same ↦ elim (cases_Bool (accepts t m)) [
        | inl accepted ↦
            let here =
            subst (λ n. content_at (take t (Command m content)) n ≡ Some content) same
            (content_at-take_accepted t m content accepted) in
            absurd (some_none content (sym here ∙ none))
        | inr refused ↦ sym (ap (λ u. content_at u number) (take-refused t m content refused)) ∙ none
      ]
      | inr apart ↦ sym (content_at-take_command t m number content apart) ∙ none
    ]

-- a command that is parked
pub record IsParked (t : Taken) (ask : Ask) (entry : NumberedContent) : Type 0 where
  pub stays : front (take t ask) ≡ front t
  pub past : front t < entry.number
  pub here : content_at (take t ask) entry.number ≡ Some entry.content

abbrev entry_of : ℕ → Content → NumberedContent
entry_of number content = record { number = number; content = content }

IsParked-accepted : (t : Taken) (m : ℕ) (content : Content) → accepts t m ≡ true → front t < m
    → IsParked t (Command m content) (entry_of m content)
IsParked-accepted t m content accepted past = record {
  stays = ap front (take-accepted t m content accepted) ∙ front-parked t m content past;
  past = past;
  here = content_at-take_accepted t m content accepted;
}

past-front : (t : Taken) (m : ℕ) → nat_lt (front t) m ≡ true → front t < m
past-front t m past = grind (arith, nat_tests)

parked_when : (t : Taken) (m : ℕ) (content : Content) (entry : NumberedContent) (accepted past : Bool)
    → accepts t m ≡ accepted → nat_lt (front t) m ≡ past
    → cond (accepted && past) (Some (entry_of m content)) None ≡ Some entry → IsParked t (Command m content) entry
parked_when t m content entry true true accepted past e =
    let same : entry_of m content ≡ entry = cc in
    subst (λ x. IsParked t (Command m content) x) same (IsParked-accepted t m content accepted (past-front t m past))
parked_when t m content entry true false accepted past e = absurd (some_none entry (sym e))
parked_when t m content entry false past accepted after e = absurd (some_none entry (sym e))

pub IsParked-parked_by : (t : Taken) (ask : Ask) (entry : NumberedContent) → parked_by t ask ≡ Some entry → IsParked t ask entry
IsParked-parked_by t (Command m content) entry parked = parked_when t m content entry _ _ refl refl parked
IsParked-parked_by t (Skip upto) entry parked = absurd (some_none entry (sym parked))

is_some-some : {A : Type 0} (a : A) (x : Option A) → x ≡ Some a → is_some x ≡ true
is_some-some a x e = ap is_some e

-- an accepted command is at the front, or it is parked
front-moved : (t : Taken) (m : ℕ) (content : Content) → accepts t m ≡ true → front (take t (Command m content)) ≤ m → front t < m
front-moved t m content accepted low =
    let grown = take t (Command m content) in
    let missing = (IsFront-front grown).missing in
    let key = is_some-some content (content_at grown m) (content_at-take_accepted t m content accepted) in
    let rises = front-take t (Command m content) in
    let within = IsWithin-accepted t m accepted in
    elim (cases_eq (front grown) m) [
      | inl same ↦ absurd (false≢true (sym missing ∙ (ap (λ n. is_key grown n) same ∙ key)))
      | inr apart ↦ omega (arith, low, apart, rises)
    ]

parked_by-accepted : (t : Taken) (m : ℕ) (content : Content) → accepts t m ≡ true → front t < m
    → parked_by t (Command m content) ≡ Some (entry_of m content)
parked_by-accepted t m content accepted past = let above : nat_lt (front t) m ≡ true = grind (arith, nat_tests) in rw (accepted, above) refl

-- from the front that an ask leaves, a number under which nothing is parked keeps what stands under it
pub content_at-past : (t : Taken) (ask : Ask) (number : ℕ) → front (take t ask) ≤ number
    → ((entry : NumberedContent) → parked_by t ask ≡ Some entry → entry.number ≢ number)
    → content_at (take t ask) number ≡ content_at t number
content_at-past t (Skip upto) number past apart = content_at-take_skip t upto number
content_at-past t (Command m content) number past apart =
    elim (cases_eq m number) [
      | inl same ↦ elim (cases_Bool (accepts t m)) [
        | inl accepted ↦
            let above = front-moved t m content accepted (omega (arith, past, same)) in
            absurd (apart (entry_of m content) (parked_by-accepted t m content accepted above) same)
        | inr refused ↦ ap (λ u. content_at u number) (take-refused t m content refused)
      ]
      | inr other ↦ content_at-take_command t m number content other
    ]

none_some : {A : Type 0} (a : A) → None ≡ Some a → ⊥
none_some a e = cc

-- an ask that neither moves the front nor parks anything changes nothing
pub take-unmoved : (t : Taken) (ask : Ask) → front (take t ask) ≡ front t → parked_by t ask ≡ None → take t ask ≡ t
take-unmoved t (Command m content) stays none =
    elim (cases_Bool (accepts t m)) [
      | inl accepted ↦
          let within = (IsWithin-accepted t m accepted).from in
          let past = front-moved t m content accepted (omega (arith, stays, within)) in
          absurd (none_some _ (sym none ∙ parked_by-accepted t m content accepted past))
      | inr refused ↦ take-refused t m content refused
    ]
take-unmoved t (Skip upto) stays none =
    elim (cases_Bool (accepts_skip t upto)) [
      | inl accepted ↦
          let above = (IsSkipWithin-accepted t upto accepted).above in
          let grown = take t (Skip upto) in
          let reached = (IsFront-front grown).given_up in
          let limit : grown.upto ≡ max t.upto upto = ap (λ (u : Taken). u.upto) (take-skip_accepted t upto accepted) in
          absurd (omega (arith, stays, above, reached, limit))
      | inr refused ↦ take-skip_refused t upto refused
    ]
