-- How far the numbers that were named go.
use Rattle.std.proofs.Common.{◌≡◌, ◌⊎◌, ℕ, ◌+◌, ◌<◌, ◌≤◌, Bool, true, false, cond, List, ◌∷◌, Option, Some, None, is_some, []}
use Rattle.std.proofs.Common.{length, map, max, min, pos, zero, suc, slice_index_or}
use Rattle.std.proofs.Common.{refl, sym, ap, ◌∙◌, subst, arith, inl, inr, nat_le, nat_lt}
use Rattle.std.specs.List.{Contains, filter}
use Rattle.std.proofs.lemmas.Bool.Decides.{nat_tests}
use Rattle.std.proofs.lemmas.Bool.{cases_eq, cases_lt, false≢true}
use Rattle.points.specs.declared.content.Content.{Content}
use Rattle.points.specs.Texts.{Text}
use Rattle.window.specs.declared.numbered_content.NumberedContent.{NumberedContent}
use Rattle.window.specs.Taken.{content_in, front}
use Rattle.building.specs.Building.{Building}
use Rattle.deliveries.specs.declared.delivery.Delivery.{Delivery}
use Rattle.deliveries.specs.declared.delivery.Delivery.TheVariants.{Command, Skip}
use Rattle.deliveries.specs.declared.reply.Reply.{Reply}
use Rattle.deliveries.specs.declared.reply.Reply.TheVariants.{SkipDone}
use Rattle.deliveries.specs.Accepted.{taken_by}
use Rattle.deliveries.proofs.RangeLemmas.{front_least}
use Rattle.panel.specs.Life.{WereSent}
use Rattle.panel.specs.Means.{Came}
use Rattle.panel.proofs.ContentLemmas.{content_in-apart, content_in-here, content_in-low}
use Rattle.panel.proofs.SkipLemmas.{skips-are-true}
use Rattle.panel.specs.Due.{command_of, due, is_kept, named_by}
use Rattle.panel.specs.Run.{Run, Began, Pressed, Kept, Heard, GaveUp, behind, first_number, further, in_flight, kept_below, life}
use Rattle.panel.specs.Run.{next_number, numbered, pressed, reach, skip, skip_after}
use Rattle.panel.specs.Upheld.{AllCame, IsBeginning, LiesWithin}
use Rattle.panel.proofs.EntryLemmas.{Between, Between-filter, Between-rise, content_in-past, content_in-push}
use Rattle.panel.proofs.RunLemmas.{below-push, in_flight-between, pressed-between}
use Rattle.panel.proofs.StepLemmas.{skip_after-same}
use Rattle.panel.proofs.UpheldLemmas.{still-flying}

-- ---- entries under all numbers in a row

none_some : (x : ℕ) → None ≡ Some x → ⊥
none_some x e = cc

Covers : List NumberedContent → ℕ → ℕ → Type 0
Covers entries from upto = (number : ℕ) → from ≤ number → number < upto → is_some (content_in entries number) ≡ true

covered : (entries : List NumberedContent) (least from upto : ℕ) → Between least entries upto → Covers entries from upto
    → upto ≤ from + length entries
unfolding Covers
covered [] least from upto between covers = elim (cases_lt from upto) [
  | inl below ↦ absurd (false≢true (covers from (omega arith) below))
  | inr past ↦ omega (arith, past)
]
covered (entry ∷ entries) least from upto between covers = elim (cases_lt entry.number from) [
  | inl below ↦
      let rest = covered entries (entry.number + 1) from upto between.1
      (λ number high low. ap is_some (sym (content_in-apart entry entries number (λ is. omega (arith, is, below, high)))) ∙ covers number
      high low) in
      omega (arith, rest)
  | inr high ↦ elim (cases_lt from upto) [
    | inl inside ↦ elim (cases_eq entry.number from) [
      | inl same ↦
          let rest = covered entries (entry.number + 1) (from + 1) upto between.1
          (λ number past low. ap is_some
          (sym (content_in-apart entry entries number (λ is. omega (arith, is, same, past)))) ∙ covers number (omega (arith, past)) low) in
          omega (arith, rest)
      | inr apart ↦
          let none : content_in (entry ∷ entries) from ≡ None =
          content_in-low entry.number from (entry ∷ entries)
          (Between-rise entry.number upto (entry ∷ entries) (omega arith, between.1)) (omega (arith, high, apart)) in
          absurd (false≢true (sym (ap is_some none) ∙ covers from (omega arith) inside))
    ]
    | inr past ↦ omega (arith, past)
  ]
]

-- ---- all numbers were pressed

pressed-covers : (run : Run) → Covers (pressed run) (first_number run) (next_number run)
unfolding Covers
pressed-covers (Began first) number high low = absurd (omega (arith, high, low))
pressed-covers (Pressed run content) number high low = elim (cases_lt number (next_number run)) [
  | inl below ↦ ap is_some (below-push (next_number run) number content (pressed run) below) ∙ pressed-covers run number high below
  | inr past ↦
      ap is_some
      (content_in-push number (pressed run) (numbered (next_number run) content ∷ [])
      (content_in-past (first_number run) (next_number run) number (pressed run) (pressed-between run) past)
      ∙ content_in-here (numbered (next_number run) content) [] number (omega (arith, past, low)))
]
pressed-covers (Kept run other) number high low = pressed-covers run number high low
pressed-covers (Heard run reply) number high low = pressed-covers run number high low
pressed-covers (GaveUp run other) number high low = pressed-covers run number high low

module _ (b : Building) (p : Text) (ds : List Delivery) where
  abbrev next : ℕ
  next = front (taken_by b p ds)

  -- from the front on they are in flight
  flying-covers : (run : Run) → 1 ≤ first_number run → first_number run ≤ next → WereSent (life run) p ds → AllCame b p ds run
      → Covers (in_flight run) next (next_number run)
  unfolding Covers
  flying-covers run least reached sent all number high low =
      by (content_in (pressed run) number) refl (pressed-covers run number (omega (arith, reached, high)) low)
    where
      by : (found : Option Content) → content_in (pressed run) number ≡ found → is_some (content_in (pressed run) number) ≡ true
          → is_some (content_in (in_flight run) number) ≡ true
      by None e some = absurd (false≢true (sym (ap is_some e) ∙ some))
      by (Some content) e some = ap is_some (still-flying b p ds run least sent all number content e high)

  numbers-within : (run : Run) → 1 ≤ first_number run → first_number run ≤ next → WereSent (life run) p ds → AllCame b p ds run
      → next_number run ≤ next + length (in_flight run)
  numbers-within run least reached sent all =
      covered (in_flight run) (first_number run) next (next_number run) (in_flight-between run) (flying-covers run least reached sent all)

  -- ---- once the first skip is done, the front has reached the first number

  record Opens (run : Run) : Type 0 where
    none : skip run ≡ None → first_number run ≤ next
    some : (upto : ℕ) → skip run ≡ Some upto → (first_number run ≤ upto) ⊎ (first_number run ≤ next)

opens-began : (first next : ℕ) (later : Bool) → nat_lt 1 first ≡ later → 1 ≤ next → cond later (Some first) None ≡ None → first ≤ next
opens-began first next true is least e = absurd (none_some first (sym e))
opens-began first next false is least e = grind (arith, nat_tests)

some_is : (x y : ℕ) → Some x ≡ Some y → x ≡ y
some_is x y e = cc

opens-some : (first upto : ℕ) (later : Bool) → cond later (Some first) None ≡ Some upto → first ≤ upto
opens-some first upto true e = let same = some_is first upto e in omega (arith, same)
opens-some first upto false e = absurd (none_some upto e)

-- a reply that ends a skip tells that the front is past it
ended-skip : (b : Building) (p : Text) (ds : List Delivery) (reply : Reply) (before : Option ℕ) → Came b p ds reply
    → skip_after reply before ≡ None → (upto : ℕ) → before ≡ Some upto → upto ≤ front (taken_by b p ds)
ended-skip b p ds reply None came e upto is = absurd (none_some upto is)
ended-skip b p ds (SkipDone next) (Some before) came e upto is = by (nat_le before next) refl e
  where
    by : (done : Bool) → nat_le before next ≡ done → cond done None (Some before) ≡ None → upto ≤ front (taken_by b p ds)
    by true test ended =
        let reached = skips-are-true b p ds (SkipDone next) next came refl in
        let same = some_is before upto is in
        let low : before ≤ next = grind (arith, nat_tests) in
        omega (arith, reached, same, low)
    by false test ended = absurd (none_some before (sym ended))
ended-skip b p ds other (Some before) came e upto is = absurd (none_some before (sym e))

opens : (b : Building) (p : Text) (ds : List Delivery) (run : Run) → AllCame b p ds run → Opens b p ds run
opens b p ds (Began first) all = record {
  none = λ e. opens-began first (front (taken_by b p ds)) (nat_lt 1 first) refl (front_least b p ds) e;
  some = λ upto e. inl (opens-some first upto (nat_lt 1 first) e);
}
opens b p ds (Pressed run content) all = let was = opens b p ds run all in record { none = was.none; some = was.some }
opens b p ds (Kept run number) all = let was = opens b p ds run all in record { none = was.none; some = was.some }
opens b p ds (Heard run reply) all = heard (opens b p ds run all.1)
  where
    heard : Opens b p ds run → Opens b p ds (Heard run reply)
    heard was = record {
      none = λ e. by (skip run) refl e;
      some = λ upto e. was.some upto (skip_after-same reply (skip run) upto e);
    }
      where
        by : (before : Option ℕ) → skip run ≡ before → skip_after reply (skip run) ≡ None → first_number run ≤ front (taken_by b p ds)
        by None is e = was.none is
        by (Some upto) is e =
            let reached = ended-skip b p ds reply (skip run) all.0 e upto is in
            elim (was.some upto is) [ inl low ↦ omega (arith, low, reached) | inr done ↦ done ]
opens b p ds (GaveUp run number) all = gave_up (opens b p ds run all)
  where
    gave_up : Opens b p ds run → Opens b p ds (GaveUp run number)
    gave_up was = record {
      none = λ e. absurd (none_some (further (skip run) (behind number (next_number run))) (sym e));
      some = λ upto e. by (skip run) refl upto e;
    }
      where
        by : (before : Option ℕ) → skip run ≡ before → (upto : ℕ) → Some (further (skip run) (behind number (next_number run))) ≡ Some upto
            → (first_number run ≤ upto) ⊎ (first_number run ≤ front (taken_by b p ds))
        by None is upto e = inr (was.none is)
        by (Some other) is upto e = elim (was.some other is) [
          | inl low ↦
              let same = some_is (further (skip run) (behind number (next_number run))) upto e in
              let grown : further (skip run) (behind number (next_number run)) ≡ max other (behind number (next_number run)) =
              ap (λ x. further x (behind number (next_number run))) is in
              inl (omega (arith, low, same, grown))
          | inr done ↦ inr done
        ]

-- ---- a command that was named

beginning-next : (earlier run : Run) → IsBeginning earlier run → next_number earlier ≤ next_number run
beginning-next earlier (Began first) is = let same = ap next_number is in omega (arith, same)
beginning-next earlier (Pressed run content) (inl is) = let same = ap next_number is in omega (arith, same)
beginning-next earlier (Pressed run content) (inr more) = let low = beginning-next earlier run more in omega (arith, low)
beginning-next earlier (Kept run number) (inl is) = let same = ap next_number is in omega (arith, same)
beginning-next earlier (Kept run number) (inr more) = beginning-next earlier run more
beginning-next earlier (Heard run reply) (inl is) = let same = ap next_number is in omega (arith, same)
beginning-next earlier (Heard run reply) (inr more) = beginning-next earlier run more
beginning-next earlier (GaveUp run number) (inl is) = let same = ap next_number is in omega (arith, same)
beginning-next earlier (GaveUp run number) (inr more) = beginning-next earlier run more

beginning-first : (earlier run : Run) → IsBeginning earlier run → first_number earlier ≡ first_number run
beginning-first earlier (Began first) is = ap first_number is
beginning-first earlier (Pressed run content) (inl is) = ap first_number is
beginning-first earlier (Pressed run content) (inr more) = beginning-first earlier run more
beginning-first earlier (Kept run number) (inl is) = ap first_number is
beginning-first earlier (Kept run number) (inr more) = beginning-first earlier run more
beginning-first earlier (Heard run reply) (inl is) = ap first_number is
beginning-first earlier (Heard run reply) (inr more) = beginning-first earlier run more
beginning-first earlier (GaveUp run number) (inl is) = ap first_number is
beginning-first earlier (GaveUp run number) (inr more) = beginning-first earlier run more

beginning-came : (b : Building) (p : Text) (ds : List Delivery) (earlier run : Run) → IsBeginning earlier run → AllCame b p ds run
    → AllCame b p ds earlier
beginning-came b p ds earlier (Began first) is all = subst (AllCame b p ds) (sym is) all
beginning-came b p ds earlier (Pressed run content) (inl is) all = subst (AllCame b p ds) (sym is) all
beginning-came b p ds earlier (Pressed run content) (inr more) all = beginning-came b p ds earlier run more all
beginning-came b p ds earlier (Kept run number) (inl is) all = subst (AllCame b p ds) (sym is) all
beginning-came b p ds earlier (Kept run number) (inr more) all = beginning-came b p ds earlier run more all
beginning-came b p ds earlier (Heard run reply) (inl is) all = subst (AllCame b p ds) (sym is) all
beginning-came b p ds earlier (Heard run reply) (inr more) all = beginning-came b p ds earlier run more all.1
beginning-came b p ds earlier (GaveUp run number) (inl is) all = subst (AllCame b p ds) (sym is) all
beginning-came b p ds earlier (GaveUp run number) (inr more) all = beginning-came b p ds earlier run more all

number_of : Delivery → ℕ
number_of (Command panel (pos number) content) = number
number_of other = 0

same-number : (p : Text) (x y : ℕ) (one other : Content) → Command p (pos x) one ≡ Command p (pos y) other → x ≡ y
same-number p x y one other e = cc

-- each command among those of entries lies below their bound
named-below : (p : Text) (entries : List NumberedContent) (least upto place number : ℕ) (content : Content) → Between least entries upto
    → place < length (map (command_of p) entries)
    → slice_index_or (map (command_of p) entries) place (Command p (pos number) content) ≡ Command p (pos number) content → number < upto
named-below p [] least upto place number content between inside is = absurd (omega (arith, inside))
named-below p (entry ∷ entries) least upto zero number content between inside is =
    let same : entry.number ≡ number = same-number p entry.number number entry.content content is in
    elim (cases_lt number upto) [
      | inl below ↦ below
      | inr past ↦
          let none = content_in-past least upto entry.number (entry ∷ entries) between (omega (arith, same, past)) in
          absurd (false≢true (sym (ap is_some none) ∙ ap is_some (content_in-here entry entries entry.number refl)))
    ]
named-below p (entry ∷ entries) least upto (suc place) number content between inside is =
    named-below p entries (entry.number + 1) upto place number content between.1 (omega (arith, inside)) is

skip-apart : (p : Text) (upto number place : ℕ) (content : Content)
    → place < length (Skip p (pos upto) ∷ [])
    → slice_index_or (Skip p (pos upto) ∷ []) place (Command p (pos number) content) ≡ Command p (pos number) content → ⊥
skip-apart p upto number zero content inside is = cc
skip-apart p upto number (suc place) content inside is = omega (arith, inside)

record IsBelow (run : Run) (number : ℕ) : Type 0 where
  no_skip : skip run ≡ None
  below : number < next_number run

named-is : (p : Text) (run : Run) (number : ℕ) (content : Content) → Contains (due p run) (Command p (pos number) content)
    → IsBelow run number
named-is p run number content named = by (skip run) refl named
  where
    by : (before : Option ℕ) → skip run ≡ before
        → Contains (named_by p (kept_below run) before (reach run) (in_flight run)) (Command p (pos number) content) → IsBelow run number
    by None is among = record {
      no_skip = is;
      below = named-below p (filter (is_kept (kept_below run)) (in_flight run)) (first_number run) (next_number run) among.0 number content
          (Between-filter (is_kept (kept_below run)) (first_number run) (next_number run) (in_flight run) (in_flight-between run))
          among.1 among.2;
    }
    by (Some upto) is among = absurd (skip-apart p (min upto (reach run)) number among.0 content among.1 among.2)

pub lies-within : (p : Text) (run : Run) → 1 ≤ first_number run → length (in_flight run) ≤ 64 → LiesWithin p run
lies-within p run least few b ds sent all number content named =
    let at = named-is p named.earlier number content named.named in
    let opened = (opens b p ds named.earlier (beginning-came b p ds named.earlier run named.beginning all)).none at.no_skip in
    let first = beginning-first named.earlier run named.beginning in
    let far = beginning-next named.earlier run named.beginning in
    let below = at.below in
    let within = numbers-within b p ds run least (omega (arith, opened, first)) sent all in
    omega (arith, within, few, far, below)
