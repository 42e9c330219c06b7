-- What stands under a number among the contents that are applied, and in what was accepted after one ask.
use Rattle.std.proofs.Common.{◌≡◌, ◌≢◌, ℕ, suc, zero, ◌+◌, ◌-◌, ◌<◌, ◌≤◌, ◌==◌, true, false, List, Option, Some, None}
use Rattle.std.proofs.Common.{refl, ap, ◌∙◌, subst, arith, inl, inr}
use Rattle.std.proofs.lemmas.Bool.Decides.{nat_tests}
use Rattle.std.proofs.lemmas.Bool.{cases_eq, cases_Bool}
use Rattle.points.specs.declared.content.Content.{Content}
use Rattle.window.specs.declared.numbered_content.NumberedContent.{NumberedContent}
use Rattle.window.specs.Applied.{applied, and_at, contents_from}
use Rattle.window.specs.Taken.{Command, Skip, Taken, take, content_in, content_at, front, accepts, accepts_skip}
use Rattle.window.proofs.FrontLemmas.{take-accepted, take-refused}
use Rattle.window.proofs.PlanLemmas.{content_new, content_other, take-skip_accepted, take-skip_refused}

-- what stands under a number among the contents of numbers in a row

content_in-and_at-same : (number : ℕ) (content : Option Content) (rest : List NumberedContent) → content_in rest number ≡ None
    → content_in (and_at number content rest) number ≡ content
content_in-and_at-same number None rest none = none
content_in-and_at-same number (Some content) rest none = let same : (number == number) ≡ true = grind (arith, nat_tests) in rw same refl

content_in-and_at-apart : (from number : ℕ) (content : Option Content) (rest : List NumberedContent) → from ≢ number
    → content_in (and_at from content rest) number ≡ content_in rest number
content_in-and_at-apart from number None rest apart = refl
content_in-and_at-apart from number (Some content) rest apart =
    let other : (from == number) ≡ false = grind (arith, nat_tests) in rw other refl

content_in-contents_from-below : (count : ℕ) (t : Taken) (from number : ℕ) → number < from
    → content_in (contents_from count t from) number ≡ None
content_in-contents_from-below zero t from number below = refl
content_in-contents_from-below (suc count) t from number below =
    let apart : from ≢ number = omega arith in
    content_in-and_at-apart from number (content_at t from) (contents_from count t (from + 1)) apart
    ∙ content_in-contents_from-below count t (from + 1) number (omega arith)

content_in-contents_from : (count : ℕ) (t : Taken) (from number : ℕ) → from ≤ number → number < from + count
    → content_in (contents_from count t from) number ≡ content_at t number
content_in-contents_from zero t from number least below = absurd (omega arith)
content_in-contents_from (suc count) t from number least below =
    let rest = contents_from count t (from + 1) in
    elim (cases_eq from number) [
      | inl same ↦
          let none : content_in rest from ≡ None = content_in-contents_from-below count t (from + 1) from (omega arith) in
          subst (λ n. content_in (and_at from (content_at t from) rest) n ≡ content_at t n) same
          (content_in-and_at-same from (content_at t from) rest none)
      | inr apart ↦ content_in-and_at-apart from number (content_at t from) rest apart
          ∙ content_in-contents_from count t (from + 1) number (omega arith) (omega arith)
    ]

content_in-contents_from-past : (count : ℕ) (t : Taken) (from number : ℕ) → from + count ≤ number
    → content_in (contents_from count t from) number ≡ None
content_in-contents_from-past zero t from number past = refl
content_in-contents_from-past (suc count) t from number past =
    let apart : from ≢ number = omega arith in
    content_in-and_at-apart from number (content_at t from) (contents_from count t (from + 1)) apart
    ∙ content_in-contents_from-past count t (from + 1) number (omega arith)

-- among the contents that are applied stands under each number that the front passes what was accepted under it
pub content_in-applied : (old new : Taken) (number : ℕ) → front old ≤ number → number < front new
    → content_in (applied old new) number ≡ content_at new number
unfolding applied
content_in-applied old new number least below =
    content_in-contents_from (front new - front old) new (front old) number least (omega arith)

-- and under no other
pub content_in-applied-below : (old new : Taken) (number : ℕ) → number < front old → content_in (applied old new) number ≡ None
unfolding applied
content_in-applied-below old new number below = content_in-contents_from-below (front new - front old) new (front old) number below

pub content_in-applied-past : (old new : Taken) (number : ℕ) → front old ≤ front new → front new ≤ number
    → content_in (applied old new) number ≡ None
unfolding applied
content_in-applied-past old new number rises past =
    content_in-contents_from-past (front new - front old) new (front old) number (omega arith)

-- what stands under a number after one ask: what stood there, but for the command that is accepted

pub content_at-take_command : (t : Taken) (m number : ℕ) (content : Content) → m ≢ number
    → content_at (take t (Command m content)) number ≡ content_at t number
content_at-take_command t m number content apart =
    elim (cases_Bool (accepts t m)) [
      | inl accepted ↦ ap (λ u. content_at u number) (take-accepted t m content accepted) ∙ content_other t m number content apart
      | inr refused ↦ ap (λ u. content_at u number) (take-refused t m content refused)
    ]

pub content_at-take_accepted : (t : Taken) (number : ℕ) (content : Content) → accepts t number ≡ true
    → content_at (take t (Command number content)) number ≡ Some content
content_at-take_accepted t number content accepted =
    ap (λ u. content_at u number) (take-accepted t number content accepted) ∙ content_new t number content

pub content_at-take_skip : (t : Taken) (upto number : ℕ) → content_at (take t (Skip upto)) number ≡ content_at t number
content_at-take_skip t upto number =
    elim (cases_Bool (accepts_skip t upto)) [
      | inl accepted ↦ ap (λ u. content_at u number) (take-skip_accepted t upto accepted)
      | inr refused ↦ ap (λ u. content_at u number) (take-skip_refused t upto refused)
    ]
