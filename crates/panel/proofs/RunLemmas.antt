-- What holds of each run of a panel's end.
use Rattle.std.proofs.Common.{◌≡◌, ℕ, ◌<◌, ◌≤◌, Bool, true, false, cond, List, [], ◌∷◌, ◌++◌, Option, Some, None}
use Rattle.std.proofs.Common.{refl, sym, ◌∙◌, subst, arith, inl, inr, nat_lt}
use Rattle.std.proofs.lemmas.Bool.Decides.{nat_tests}
use Rattle.std.proofs.lemmas.Bool.{cases_eq, cases_lt}
use Rattle.points.specs.declared.content.Content.{Content}
use Rattle.window.specs.declared.numbered_content.NumberedContent.{NumberedContent}
use Rattle.window.specs.Taken.{content_in}
use Rattle.deliveries.specs.declared.reply.Reply.{Reply}
use Rattle.panel.specs.Laws.{Goes}
use Rattle.panel.specs.Life.{IsWithin, RiseFrom}
use Rattle.panel.specs.Means.{ended_by}
use Rattle.panel.proofs.ContentLemmas.{RiseFrom-filter, content_in-dropped, content_in-kept}
use Rattle.panel.specs.Run.{Run, Began, Pressed, Kept, Heard, GaveUp, behind, first_number, further, given_up, in_flight, kept}
use Rattle.panel.specs.Run.{kept_below, life, next_number, numbered, pressed, skip, without}
use Rattle.panel.proofs.EntryLemmas.{Between, Between-filter, Between-push, Between-rise, content_in-past, content_in-push}
use Rattle.panel.proofs.EntryLemmas.{content_in-push_apart, content_in-without, content_in-without_it}
use Rattle.panel.proofs.StepLemmas.{skip_after-same}

none_content : (content : Content) → None ≡ Some content → ⊥
none_content content e = cc

-- ---- the numbers rise

pub pressed-between : (run : Run) → Between (first_number run) (pressed run) (next_number run)
pressed-between (Began first) = omega arith
pressed-between (Pressed run content) =
    Between-push (first_number run) (next_number run) (next_number run) content (pressed run) (omega arith) (pressed-between run)
pressed-between (Kept run number) = pressed-between run
pressed-between (Heard run reply) = pressed-between run
pressed-between (GaveUp run number) = pressed-between run

Between-without : (ended : Option ℕ) (least upto : ℕ) (entries : List NumberedContent) → Between least entries upto
    → Between least (without ended entries) upto
Between-without None least upto entries between = between
Between-without (Some number) least upto entries between = Between-filter _ least upto entries between

pub in_flight-between : (run : Run) → Between (first_number run) (in_flight run) (next_number run)
in_flight-between (Began first) = omega arith
in_flight-between (Pressed run content) =
    Between-push (first_number run) (next_number run) (next_number run) content (in_flight run) (omega arith) (in_flight-between run)
in_flight-between (Kept run number) = in_flight-between run
in_flight-between (Heard run reply) =
    Between-without (ended_by reply) (first_number run) (next_number run) (in_flight run) (in_flight-between run)
in_flight-between (GaveUp run number) = in_flight-between run

pub kept-rise : (run : Run) → RiseFrom (first_number run) (kept run)
kept-rise run =
    RiseFrom-filter (λ entry. nat_lt entry.number (kept_below run)) (first_number run) (pressed run)
    (Between-rise (first_number run) (next_number run) (pressed run) (pressed-between run))

-- ---- what is in flight was pressed

-- one more under the next number, behind entries below it
pub same-push : (run : Run) (number : ℕ) (content : Content) (xs ys : List NumberedContent)
    → Between (first_number run) xs (next_number run)
    → Between (first_number run) ys (next_number run) → next_number run ≤ number
    → content_in (xs ++ numbered (next_number run) content ∷ []) number ≡ content_in (ys ++ numbered (next_number run) content ∷ []) number
same-push run number content xs ys first second past =
    content_in-push number xs (numbered (next_number run) content ∷ [])
    (content_in-past (first_number run) (next_number run) number xs first past)
    ∙ sym (content_in-push number ys (numbered (next_number run) content ∷ [])
    (content_in-past (first_number run) (next_number run) number ys second past))

-- below the next number the press changes nothing
pub below-push : (next number : ℕ) (content : Content) (entries : List NumberedContent) → number < next
    → content_in (entries ++ numbered next content ∷ []) number ≡ content_in entries number
below-push next number content entries below = content_in-push_apart number next content entries (λ is. omega (arith, is, below))

without-found : (ended : Option ℕ) (number : ℕ) (content : Content) (entries : List NumberedContent)
    → content_in (without ended entries) number ≡ Some content → content_in entries number ≡ Some content
without-found None number content entries found = found
without-found (Some other) number content entries found = elim (cases_eq number other) [
  | inl same ↦
      absurd (none_content content (sym (content_in-without_it number entries)
      ∙ subst (λ n. content_in (without (Some n) entries) number ≡ Some content) (sym same) found))
  | inr apart ↦ sym (content_in-without other number entries apart) ∙ found
]

pub in_flight-pressed : (run : Run) (number : ℕ) (content : Content) → content_in (in_flight run) number ≡ Some content
    → content_in (pressed run) number ≡ Some content
in_flight-pressed (Began first) number content found = found
in_flight-pressed (Pressed run content) number c found = elim (cases_lt number (next_number run)) [
  | inl below ↦
      below-push (next_number run) number content (pressed run) below
      ∙ in_flight-pressed run number c (sym (below-push (next_number run) number content (in_flight run) below) ∙ found)
  | inr past ↦ same-push run number content (pressed run) (in_flight run) (pressed-between run) (in_flight-between run) past ∙ found
]
in_flight-pressed (Kept run other) number content found = in_flight-pressed run number content found
in_flight-pressed (Heard run reply) number content found =
    in_flight-pressed run number content (without-found (ended_by reply) number content (in_flight run) found)
in_flight-pressed (GaveUp run other) number content found = in_flight-pressed run number content found

-- ---- what is kept was pressed

pub record IsKept (run : Run) (number : ℕ) (content : Content) : Type 0 where
  pub low : number < kept_below run
  pub was_pressed : content_in (pressed run) number ≡ Some content

pub kept-is : (run : Run) (number : ℕ) (content : Content) → content_in (kept run) number ≡ Some content → IsKept run number content
kept-is run number content found = elim (cases_lt number (kept_below run)) [
  | inl low ↦
      let keeps : nat_lt number (kept_below run) ≡ true = grind (arith, nat_tests) in
      record {
        low = low;
        was_pressed = sym (content_in-kept (λ n. nat_lt n (kept_below run)) number (pressed run) keeps) ∙ found;
      }
  | inr high ↦
      let drops : nat_lt number (kept_below run) ≡ false = grind (arith, nat_tests) in
      absurd (none_content content
      (sym (content_in-dropped (λ n. nat_lt n (kept_below run)) number (pressed run) drops) ∙ found))
]

pub is-kept : (run : Run) (number : ℕ) (content : Content) → IsKept run number content → content_in (kept run) number ≡ Some content
is-kept run number content is =
    let low = is.low in
    let keeps : nat_lt number (kept_below run) ≡ true = grind (arith, nat_tests) in
    content_in-kept (λ n. nat_lt n (kept_below run)) number (pressed run) keeps ∙ is.was_pressed

-- ---- a run goes on

pub pressed-more : (run : Run) (content : Content) (number : ℕ) (c : Content) → content_in (pressed run) number ≡ Some c
    → content_in (pressed (Pressed run content)) number ≡ Some c
pressed-more run content number c found = elim (cases_lt number (next_number run)) [
  | inl below ↦ below-push (next_number run) number content (pressed run) below ∙ found
  | inr past ↦
      absurd (none_content c
      (sym (content_in-past (first_number run) (next_number run) number (pressed run) (pressed-between run) past) ∙ found))
]

pub goes-pressed : (run : Run) (content : Content) → Goes (life run) (life (Pressed run content))
goes-pressed run content = record {
  first = refl;
  pressed = λ number c found.
      let was = kept-is run number c found in
      is-kept (Pressed run content) number c (record { low = was.low; was_pressed = pressed-more run content number c was.was_pressed });
  given_up = λ upto within. within;
}

pub goes-kept : (run : Run) (other : ℕ) → Goes (life run) (life (Kept run other))
goes-kept run other = record {
  first = refl;
  pressed = λ number c found.
      let was = kept-is run number c found in
      is-kept (Kept run other) number c (record { low = let low = was.low in omega (arith, low); was_pressed = was.was_pressed });
  given_up = λ upto within. within;
}

pub goes-heard : (run : Run) (reply : Reply) → Goes (life run) (life (Heard run reply))
goes-heard run reply = record {
  first = refl;
  pressed = λ number c found. let was = kept-is run number c found in
      is-kept (Heard run reply) number c (record { low = was.low; was_pressed = was.was_pressed });
  given_up = λ upto within. within;
}

pub goes-gave_up : (run : Run) (other : ℕ) → Goes (life run) (life (GaveUp run other))
goes-gave_up run other = record {
  first = refl;
  pressed = λ number c found. let was = kept-is run number c found in
      is-kept (GaveUp run other) number c (record { low = was.low; was_pressed = was.was_pressed });
  given_up = λ upto within. inr within;
}

-- ---- a skip goes no further than was given up

within-more : (first upto other : ℕ) (uptos : List ℕ) → IsWithin (first ∷ uptos) upto → IsWithin (first ∷ other ∷ uptos) upto
within-more first upto other uptos (inl near) = inl near
within-more first upto other uptos (inr more) = inr (inr more)

pub within-less : (uptos : List ℕ) (low upto : ℕ) → low ≤ upto → IsWithin uptos upto → IsWithin uptos low
within-less [] low upto below within = within
within-less (bound ∷ bounds) low upto below (inl near) = inl (omega (arith, below, near))
within-less (bound ∷ bounds) low upto below (inr more) = inr (within-less bounds low upto below more)

none_some : (x : ℕ) → None ≡ Some x → ⊥
none_some x e = cc

some_is : (x y : ℕ) → Some x ≡ Some y → x ≡ y
some_is x y e = cc

began-skip : (first upto : ℕ) (later : Bool) → cond later (Some first) None ≡ Some upto → IsWithin (first ∷ []) upto
began-skip first upto true e = let same = some_is first upto e in inl (omega (arith, same))
began-skip first upto false e = absurd (none_some upto e)

further-within : (first upto more : ℕ) (uptos : List ℕ) (before : Option ℕ)
    → ((x : ℕ) → before ≡ Some x → IsWithin (first ∷ uptos) x) → upto ≡ further before more → IsWithin (first ∷ more ∷ uptos) upto
further-within first upto more uptos None within is = inr (inl (omega (arith, is)))
further-within first upto more uptos (Some other) within is = elim (cases_lt other upto) [
  | inl above ↦ inr (inl (omega (arith, is, above)))
  | inr below ↦ within-less (first ∷ more ∷ uptos) upto other below (within-more first other more uptos (within other refl))
]

pub skip-within : (run : Run) (upto : ℕ) → skip run ≡ Some upto → IsWithin (first_number run ∷ given_up run) upto
skip-within (Began first) upto is = began-skip first upto (nat_lt 1 first) is
skip-within (Pressed run content) upto is = skip-within run upto is
skip-within (Kept run number) upto is = skip-within run upto is
skip-within (Heard run reply) upto is = skip-within run upto (skip_after-same reply (skip run) upto is)
skip-within (GaveUp run number) upto is =
    further-within (first_number run) upto (behind number (next_number run)) (given_up run) (skip run) (λ x e. skip-within run x e)
    (sym (some_is (further (skip run) (behind number (next_number run))) upto is))
