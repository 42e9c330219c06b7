-- Numbered contents by rising number: what stands under a number, what a filter by numbers keeps, and when two are one.
use Rattle.std.proofs.Common.{◌≡◌, ℕ, ◌+◌, ◌<◌, ◌≤◌, ◌==◌, Bool, true, false, cond, List, [], ◌∷◌, Some, None}
use Rattle.std.proofs.Common.{refl, sym, ap, ap₂, ◌∙◌, subst, arith, inl, inr, nat_le}
use Rattle.std.specs.List.{filter}
use Rattle.std.proofs.lemmas.Bool.Decides.{nat_tests}
use Rattle.std.proofs.lemmas.Bool.{cases_lt, cases_eq}
use Rattle.points.specs.declared.content.Content.{Content}
use Rattle.window.specs.declared.numbered_content.NumberedContent.{NumberedContent}
use Rattle.window.specs.Taken.{content_in}
use Rattle.panel.specs.Life.{RiseFrom, from_number}
use Rattle.panel.proofs.PressedLemmas.{RiseFrom-weaker}

-- ---- what stands under a number

pub content_in-here : (entry : NumberedContent) (entries : List NumberedContent) (number : ℕ) → entry.number ≡ number
    → content_in (entry ∷ entries) number ≡ Some entry.content
content_in-here entry entries number is = let same : (entry.number == number) ≡ true = grind (arith, nat_tests) in rw same refl

pub content_in-apart : (entry : NumberedContent) (entries : List NumberedContent) (number : ℕ) → (entry.number ≡ number → ⊥)
    → content_in (entry ∷ entries) number ≡ content_in entries number
content_in-apart entry entries number apart = let other : (entry.number == number) ≡ false = grind (arith, nat_tests) in rw other refl

pub content_in-low : (least number : ℕ) (entries : List NumberedContent) → RiseFrom least entries → number < least
    → content_in entries number ≡ None
content_in-low least number [] rise below = refl
content_in-low least number (entry ∷ entries) rise below =
    let high = rise.0 in
    content_in-apart entry entries number (λ is. omega (arith, is, high, below))
    ∙ content_in-low (entry.number + 1) number entries rise.1 (omega (arith, high, below))

none_some : (content : Content) → None ≡ Some content → ⊥
none_some content e = cc

some_same : (x y : Content) → Some x ≡ Some y → x ≡ y
some_same x y e = cc

-- a number that has a content is one of theirs
pub content_in-least : (least number : ℕ) (content : Content) (entries : List NumberedContent) → RiseFrom least entries
    → content_in entries number ≡ Some content → least ≤ number
content_in-least least number content entries rise found = elim (cases_lt number least) [
  | inl low ↦ absurd (none_some content (sym (content_in-low least number entries rise low) ∙ found))
  | inr high ↦ high
]

-- ---- what a filter by numbers keeps

abbrev pub by_number : (ℕ → Bool) → List NumberedContent → List NumberedContent
by_number test entries = filter (λ entry. test entry.number) entries

apart-filtered : (test : ℕ → Bool) (number : ℕ) (entry : NumberedContent) (entries : List NumberedContent) (kept : Bool)
    → (entry.number ≡ number → ⊥)
    → content_in (cond kept (entry ∷ by_number test entries) (by_number test entries)) number ≡ content_in (by_number test entries) number
apart-filtered test number entry entries true apart = content_in-apart entry (by_number test entries) number apart
apart-filtered test number entry entries false apart = refl

pub content_in-kept : (test : ℕ → Bool) (number : ℕ) (entries : List NumberedContent) → test number ≡ true
    → content_in (by_number test entries) number ≡ content_in entries number
content_in-kept test number [] passes = refl
content_in-kept test number (entry ∷ entries) passes = elim (cases_eq entry.number number) [
  | inl same ↦
      let kept : test entry.number ≡ true = ap test same ∙ passes in
      ap (λ b. content_in (cond b (entry ∷ by_number test entries) (by_number test entries)) number) kept
      ∙ (content_in-here entry (by_number test entries) number same ∙ sym (content_in-here entry entries number same))
  | inr apart ↦
      apart-filtered test number entry entries (test entry.number) apart
      ∙ (content_in-kept test number entries passes ∙ sym (content_in-apart entry entries number apart))
]

pub content_in-dropped : (test : ℕ → Bool) (number : ℕ) (entries : List NumberedContent) → test number ≡ false
    → content_in (by_number test entries) number ≡ None
content_in-dropped test number [] fails = refl
content_in-dropped test number (entry ∷ entries) fails = elim (cases_eq entry.number number) [
  | inl same ↦
      let dropped : test entry.number ≡ false = ap test same ∙ fails in
      ap (λ b. content_in (cond b (entry ∷ by_number test entries) (by_number test entries)) number) dropped
      ∙ content_in-dropped test number entries fails
  | inr apart ↦
      apart-filtered test number entry entries (test entry.number) apart ∙ content_in-dropped test number entries fails
]

pub RiseFrom-filter : (test : NumberedContent → Bool) (least : ℕ) (entries : List NumberedContent) → RiseFrom least entries
    → RiseFrom least (filter test entries)
RiseFrom-filter test least [] rise = tt
RiseFrom-filter test least (entry ∷ entries) rise = by (test entry) (RiseFrom-filter test (entry.number + 1) entries rise.1)
  where
    by : (b : Bool) → RiseFrom (entry.number + 1) (filter test entries)
        → RiseFrom least (cond b (entry ∷ filter test entries) (filter test entries))
    by true more = (rise.0, more)
    by false more = let high = rise.0 in RiseFrom-weaker least (entry.number + 1) (filter test entries) (omega (arith, high)) more

-- those from a number on rise from it
pub RiseFrom-from : (first least : ℕ) (entries : List NumberedContent) → RiseFrom least entries → RiseFrom first (from_number first entries)
RiseFrom-from first least [] rise = tt
RiseFrom-from first least (entry ∷ entries) rise =
    by (nat_le first entry.number) refl (RiseFrom-from first (entry.number + 1) entries rise.1)
  where
    rest : RiseFrom (entry.number + 1) (from_number first entries)
    rest = RiseFrom-filter (λ e. nat_le first e.number) (entry.number + 1) entries rise.1

    by : (b : Bool) → nat_le first entry.number ≡ b → RiseFrom first (from_number first entries)
        → RiseFrom first (cond b (entry ∷ from_number first entries) (from_number first entries))
    by true e more = (grind (arith, nat_tests), rest)
    by false e more = more

-- ---- two are one

head-reaches : (x y : NumberedContent) (xs ys : List NumberedContent) → RiseFrom (y.number + 1) ys
    → ((number : ℕ) → content_in (x ∷ xs) number ≡ content_in (y ∷ ys) number) → y.number ≤ x.number
head-reaches x y xs ys more same = elim (cases_lt x.number y.number) [
  | inl below ↦
      let rise : RiseFrom y.number (y ∷ ys) = (omega arith, more) in
      let none : content_in (y ∷ ys) x.number ≡ None = content_in-low y.number x.number (y ∷ ys) rise below in
      absurd (none_some x.content (sym none ∙ (sym (same x.number) ∙ content_in-here x xs x.number refl)))
  | inr high ↦ high
]

pub same-entries : (least : ℕ) (xs ys : List NumberedContent) → RiseFrom least xs → RiseFrom least ys
    → ((number : ℕ) → content_in xs number ≡ content_in ys number) → xs ≡ ys
same-entries least [] [] rise more same = refl
same-entries least [] (y ∷ ys) rise more same =
    absurd (none_some y.content (same y.number ∙ content_in-here y ys y.number refl))
same-entries least (x ∷ xs) [] rise more same =
    absurd (none_some x.content (sym (same x.number) ∙ content_in-here x xs x.number refl))
same-entries least (x ∷ xs) (y ∷ ys) rise more same =
    ap₂ (λ (z : NumberedContent) zs. z ∷ zs) heads (same-entries (x.number + 1) xs ys rise.1 rest same-rest)
  where
    level : x.number ≡ y.number
    level =
        let low = head-reaches x y xs ys more.1 same in
        let high = head-reaches y x ys xs rise.1 (λ number. sym (same number)) in
        omega (arith, low, high)

    contents : x.content ≡ y.content
    contents = some_same x.content y.content
        (sym (content_in-here x xs x.number refl) ∙ (same x.number ∙ content_in-here y ys x.number (sym level)))

    heads : x ≡ y
    heads = ap₂ (λ n c. let entry : NumberedContent = record { number = n; content = c } in entry) level contents

    rest : RiseFrom (x.number + 1) ys
    rest = subst (λ n. RiseFrom (n + 1) ys) (sym level) more.1

    same-rest : (number : ℕ) → content_in xs number ≡ content_in ys number
    same-rest number = elim (cases_lt number (x.number + 1)) [
      | inl low ↦ content_in-low (x.number + 1) number xs rise.1 low ∙ sym (content_in-low (x.number + 1) number ys rest low)
      | inr high ↦
          sym (content_in-apart x xs number (λ is. omega (arith, is, high)))
          ∙ (same number ∙ content_in-apart y ys number (λ is. omega (arith, is, high, level)))
    ]
