-- Entries by rising number below a bound, and one more behind them.
use Rattle.std.proofs.Common.{◌≡◌, ℕ, ◌+◌, ◌≤◌, ◌==◌, Bool, true, false, cond, List, [], ◌∷◌, ◌++◌, Some, None, not, length}
use Rattle.std.proofs.Common.{refl, sym, ap, ◌∙◌, arith, inl, inr}
use Rattle.std.specs.List.{filter, find}
use Rattle.std.proofs.lemmas.Bool.Decides.{nat_tests}
use Rattle.std.proofs.lemmas.Bool.{cases_eq}
use Rattle.points.specs.declared.content.Content.{Content}
use Rattle.window.specs.declared.numbered_content.NumberedContent.{NumberedContent}
use Rattle.window.specs.Taken.{content_in}
use Rattle.panel.specs.Life.{RiseFrom}
use Rattle.panel.proofs.ContentLemmas.{content_in-apart, content_in-dropped, content_in-here, content_in-kept}
use Rattle.panel.specs.Run.{numbered, without}

none_content : (content : Content) → None ≡ Some content → ⊥
none_content content e = cc

-- by rising number from `least` on, below `upto`
abbrev pub Between : ℕ → List NumberedContent → ℕ → Type 0
Between least [] upto = least ≤ upto
Between least (entry ∷ entries) upto = (least ≤ entry.number) × Between (entry.number + 1) entries upto

pub Between-rise : (least upto : ℕ) (entries : List NumberedContent) → Between least entries upto → RiseFrom least entries
Between-rise least upto [] between = tt
Between-rise least upto (entry ∷ entries) between = (between.0, Between-rise (entry.number + 1) upto entries between.1)

Between-weaker : (from least upto : ℕ) (entries : List NumberedContent) → from ≤ least → Between least entries upto
    → Between from entries upto
Between-weaker from least upto [] below between = omega (arith, below, between)
Between-weaker from least upto (entry ∷ entries) below between = let high = between.0 in (omega (arith, below, high), between.1)

pub Between-push : (least upto number : ℕ) (content : Content) (entries : List NumberedContent) → upto ≤ number → Between least entries upto
    → Between least (entries ++ numbered number content ∷ []) (number + 1)
Between-push least upto number content [] past between = (omega (arith, past, between), omega arith)
Between-push least upto number content (entry ∷ entries) past between =
    (between.0, Between-push (entry.number + 1) upto number content entries past between.1)

pub Between-filter : (test : NumberedContent → Bool) (least upto : ℕ) (entries : List NumberedContent) → Between least entries upto
    → Between least (filter test entries) upto
Between-filter test least upto [] between = between
Between-filter test least upto (entry ∷ entries) between =
    by (test entry) (Between-filter test (entry.number + 1) upto entries between.1)
  where
    by : (kept : Bool) → Between (entry.number + 1) (filter test entries) upto
        → Between least (cond kept (entry ∷ filter test entries) (filter test entries)) upto
    by true more = (between.0, more)
    by false more = let high = between.0 in Between-weaker least (entry.number + 1) upto (filter test entries) (omega (arith, high)) more

Between-bound : (least upto : ℕ) (entries : List NumberedContent) → Between least entries upto → least ≤ upto
Between-bound least upto [] between = between
Between-bound least upto (entry ∷ entries) between =
    let high = between.0 in
    let rest = Between-bound (entry.number + 1) upto entries between.1 in
    omega (arith, high, rest)

pub content_in-past : (least upto number : ℕ) (entries : List NumberedContent) → Between least entries upto → upto ≤ number
    → content_in entries number ≡ None
content_in-past least upto number [] between past = refl
content_in-past least upto number (entry ∷ entries) between past =
    content_in-apart entry entries number (λ is. let low = Between-bound (entry.number + 1) upto entries between.1 in omega (
      arith,
      is,
      low,
      past,
    ))
    ∙ content_in-past (entry.number + 1) upto number entries between.1 past

-- ---- one more behind them

pub content_in-push_apart : (number other : ℕ) (content : Content) (entries : List NumberedContent) → (other ≡ number → ⊥)
    → content_in (entries ++ numbered other content ∷ []) number ≡ content_in entries number
content_in-push_apart number other content [] apart = content_in-apart (numbered other content) [] number apart
content_in-push_apart number other content (entry ∷ entries) apart = elim (cases_eq entry.number number) [
  | inl same ↦
      content_in-here entry (entries ++ numbered other content ∷ []) number same ∙ sym (content_in-here entry entries number same)
  | inr differ ↦
      content_in-apart entry (entries ++ numbered other content ∷ []) number differ
      ∙ (content_in-push_apart number other content entries apart ∙ sym (content_in-apart entry entries number differ))
]

pub content_in-push : (number : ℕ) (entries others : List NumberedContent) → content_in entries number ≡ None
    → content_in (entries ++ others) number ≡ content_in others number
content_in-push number [] others none = refl
content_in-push number (entry ∷ entries) others none = elim (cases_eq entry.number number) [
  | inl same ↦ absurd (none_content entry.content (sym none ∙ content_in-here entry entries number same))
  | inr differ ↦
      content_in-apart entry (entries ++ others) number differ
      ∙ content_in-push number entries others (sym (content_in-apart entry entries number differ) ∙ none)
]

-- ---- the entry of a number

none_entry : (command : NumberedContent) → None ≡ Some command → ⊥
none_entry command e = cc

same_entry : (x y : NumberedContent) → Some x ≡ Some y → x ≡ y
same_entry x y e = cc

pub record IsEntry (entries : List NumberedContent) (number : ℕ) (command : NumberedContent) : Type 0 where
  pub number_is : command.number ≡ number
  pub content_is : content_in entries number ≡ Some command.content

pub found-is : (entries : List NumberedContent) (number : ℕ) (command : NumberedContent)
    → find (λ entry. entry.number == number) entries ≡ Some command → IsEntry entries number command
found-is [] number command e = absurd (none_entry command e)
found-is (entry ∷ entries) number command e =
    by (entry.number == number) refl e (λ rest. found-is entries number command rest)
  where
    by : (same : Bool) → (entry.number == number) ≡ same
        → cond same (Some entry) (find (λ other. other.number == number) entries) ≡ Some command
        → (find (λ other. other.number == number) entries ≡ Some command → IsEntry entries number command)
        → IsEntry (entry ∷ entries) number command
    by true test is more =
        let command_is : entry ≡ command = same_entry entry command is in
        let number_is : entry.number ≡ number = grind (arith, nat_tests) in
        record {
          number_is = sym (ap (λ (one : NumberedContent). one.number) command_is) ∙ number_is;
          content_is = content_in-here entry entries number number_is ∙ ap (λ (one : NumberedContent). Some one.content) command_is;
        }
    by false test is more =
        let found = more is in
        record {
          number_is = found.number_is;
          content_is = content_in-apart entry entries number (grind (arith, nat_tests)) ∙ found.content_is;
        }

pub found-some : (entries : List NumberedContent) (number : ℕ) (content : Content) → content_in entries number ≡ Some content
    → (command : NumberedContent) × (find (λ entry. entry.number == number) entries ≡ Some command)
found-some [] number content found = absurd (none_content content found)
found-some (entry ∷ entries) number content found = elim (cases_eq entry.number number) [
  | inl same ↦ let here : (entry.number == number) ≡ true = grind (arith, nat_tests) in (entry, rw here refl)
  | inr differ ↦
      let rest = found-some entries number content (sym (content_in-apart entry entries number differ) ∙ found) in
      let apart : (entry.number == number) ≡ false = grind (arith, nat_tests) in
      (rest.0, ap (λ same. cond same (Some entry) (find (λ other. other.number == number) entries)) apart ∙ rest.1)
]

-- ---- without one

pub content_in-without : (ended number : ℕ) (entries : List NumberedContent) → (number ≡ ended → ⊥)
    → content_in (without (Some ended) entries) number ≡ content_in entries number
content_in-without ended number entries apart =
    let keeps : not (number == ended) ≡ true = grind (arith, nat_tests) in
    content_in-kept (λ n. not (n == ended)) number entries keeps

pub content_in-without_it : (number : ℕ) (entries : List NumberedContent) → content_in (without (Some number) entries) number ≡ None
content_in-without_it number entries =
    let drops : not (number == number) ≡ false = grind (arith, nat_tests) in
    content_in-dropped (λ n. not (n == number)) number entries drops

-- ---- none

pub none-left : (entries : List NumberedContent) → length entries ≡ 0 → entries ≡ []
none-left [] none = refl
none-left (entry ∷ entries) none = absurd (omega (arith, none))
