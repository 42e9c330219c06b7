-- Where nothing is given up; what is at rest; and what goes on.
use Rattle.std.proofs.Common.{◌≡◌, ℕ, ◌+◌, ◌<◌, ◌≤◌, Bool, true, false, List, [], ◌∷◌, Option, Some, None, pos, negsuc, ℤ}
use Rattle.std.proofs.Common.{refl, sym, ap, ◌∙◌, subst, arith, inl, inr, nat_le, nat_lt}
use Rattle.std.specs.List.{filter}
use Rattle.std.proofs.lemmas.Bool.Decides.{nat_tests}
use Rattle.std.proofs.lemmas.Bool.{cases_lt}
use Rattle.points.specs.declared.content.Content.{Content}
use Rattle.points.specs.Texts.{Text}
use Rattle.window.specs.declared.numbered_content.NumberedContent.{NumberedContent}
use Rattle.window.specs.Taken as asks
use Rattle.building.specs.Building.{Building}
use Rattle.deliveries.specs.declared.delivery.Delivery.{Delivery}
use Rattle.deliveries.specs.declared.delivery.Delivery.TheVariants as delivery_of
use Rattle.deliveries.specs.Accepted.{taken_by}
use Rattle.panel.specs.Laws.{AreEnded, AtRestAllIsDone, CommandsAreFirst, Goes, SentStaysSent}
use Rattle.panel.specs.Life.{IsGivenUp, IsPassed, IsPressed, Life, RiseFrom, WasSent, WereSent, from_number}
use Rattle.panel.specs.Means.{commands_done}
use Rattle.panel.proofs.CommandLemmas.{done-below, done-past}
use Rattle.panel.proofs.ContentLemmas.{RiseFrom-filter, RiseFrom-from, by_number, content_in-dropped, content_in-kept}
use Rattle.panel.proofs.ContentLemmas.{content_in-low, same-entries}
use Rattle.panel.proofs.GivenUpLemmas.{missing-given_up}
use Rattle.panel.proofs.PressedLemmas.{Of-by, commands-rise}
use Rattle.panel.proofs.ReplyLemmas.{replies-are-true}

-- ---- where nothing is given up

same_content : (x y : Content) → Some x ≡ Some y → x ≡ y
same_content x y e = cc

none_some : (content : Content) → None ≡ Some content → ⊥
none_some content e = cc

not-passed : (uptos : List ℕ) (n : ℕ) → uptos ≡ [] → IsPassed uptos n → ⊥
not-passed uptos n none passed = subst (λ (xs : List ℕ). IsPassed xs n) none passed

module _ (b : Building) (life : Life) (p : Text) (ds : List Delivery) where
  abbrev t : asks.Taken
  t = taken_by b p ds

  abbrev done : List NumberedContent
  done = commands_done b p ds

  -- under each of its numbers stands, below the front, what was pressed, and past it nothing
  same-below : WereSent life p ds → life.given_up ≡ [] → (n : ℕ) → 1 ≤ n → life.first ≤ n → n < asks.front t
      → asks.content_in done n ≡ asks.content_in life.pressed n
  same-below sent none n least own below = by (asks.content_at t n) refl
    where
      by : (found : Option Content) → asks.content_at t n ≡ found → asks.content_in done n ≡ asks.content_in life.pressed n
      by None e =
          let missing : asks.content_in done n ≡ None = done-below b p ds n least below ∙ e in
          absurd (not-passed life.given_up n none (missing-given_up b life p ds n sent least own below missing))
      by (Some c) e = (done-below b p ds n least below ∙ e) ∙ sym ((Of-by b life p ds sent).own n c own e)

  abbrev is_below : ℕ → Bool
  is_below n = nat_lt n (asks.front t)

  same-at : WereSent life p ds → 1 ≤ life.first → RiseFrom life.first life.pressed → life.given_up ≡ [] → (n : ℕ)
      → asks.content_in (from_number life.first done) n ≡ asks.content_in (by_number is_below life.pressed) n
  same-at sent first rise none n = elim (cases_lt n life.first) [
    | inl low ↦
        content_in-low life.first n (from_number life.first done) (RiseFrom-from life.first 1 done (commands-rise b p ds)) low
        ∙ sym (content_in-low life.first n (by_number is_below life.pressed)
        (RiseFrom-filter (λ entry. is_below entry.number) life.first life.pressed rise) low)
    | inr own ↦
        let kept : nat_le life.first n ≡ true = grind (arith, nat_tests) in
        content_in-kept (nat_le life.first) n done kept
        ∙ elim (cases_lt n (asks.front t)) [
          | inl below ↦
              let keeps : is_below n ≡ true = grind (arith, nat_tests) in
              same-below sent none n (omega (arith, first, own)) own below ∙ sym (content_in-kept is_below n life.pressed keeps)
          | inr past ↦
              let drops : is_below n ≡ false = grind (arith, nat_tests) in
              done-past b p ds n past ∙ sym (content_in-dropped is_below n life.pressed drops)
        ]
  ]

pub commands-first : CommandsAreFirst
commands-first b life p ds sent first rise none =
    same-entries life.first (from_number life.first (commands_done b p ds))
    (filter (λ entry. nat_lt entry.number (asks.front (taken_by b p ds))) life.pressed)
    (RiseFrom-from life.first 1 (commands_done b p ds) (commands-rise b p ds))
    (RiseFrom-filter (λ entry. nat_lt entry.number (asks.front (taken_by b p ds))) life.first life.pressed rise)
    (same-at b life p ds sent first rise none)

-- ---- at rest

-- numbers that are all below the front
below-all : (b : Building) (life : Life) (p : Text) (ds : List Delivery) (least : ℕ) (entries : List NumberedContent)
    → WereSent life p ds → 1 ≤ least → life.first ≤ least → RiseFrom least entries → AreEnded b p ds entries
    → filter (λ entry. nat_lt entry.number (asks.front (taken_by b p ds))) entries ≡ entries
below-all b life p ds least [] sent first own rise ended = refl
below-all b life p ds least (entry ∷ entries) sent first own rise ended =
    let high = rise.0 in
    let reply_is = ended.0 in
    let reported = replies-are-true b life p ds entry.number reply_is.given sent reply_is.came reply_is.ends
    (omega (arith, first, high)) (omega (arith, own, high)) in
    let past = reported.past in
    let below : nat_lt entry.number (asks.front (taken_by b p ds)) ≡ true = grind (arith, nat_tests, past) in
    let rest = below-all b life p ds (entry.number + 1) entries sent (omega (arith, first, high)) (omega (arith, own, high)) rise.1
    ended.1 in
    rw below (ap (λ more. entry ∷ more) rest)

pub at-rest : AtRestAllIsDone
at-rest b life p ds sent first rise none ended =
    commands-first b life p ds sent first rise none ∙ below-all b life p ds life.first life.pressed sent first (omega arith) rise ended

-- ---- what was sent stays so

module _ (earlier later : Life) (p : Text) (goes : Goes earlier later) where
  IsPressed-later : (number : ℤ) (content : Content) → IsPressed earlier number content → IsPressed later number content
  IsPressed-later (pos n) content (inl low) = inl (let same = goes.first in omega (arith, low, same))
  IsPressed-later (pos n) content (inr is) = inr (goes.pressed n content is)
  IsPressed-later (negsuc n) content is = is

  IsGivenUp-later : (upto : ℤ) → IsGivenUp earlier upto → IsGivenUp later upto
  IsGivenUp-later (pos u) (inl near) = inl (let same = goes.first in omega (arith, near, same))
  IsGivenUp-later (pos u) (inr more) = inr (goes.given_up u more)
  IsGivenUp-later (negsuc u) given = given

  WasSent-later : (d : Delivery) → WasSent earlier p d → WasSent later p d
  WasSent-later (delivery_of.Command name number content) sent = λ here. IsPressed-later number content (sent here)
  WasSent-later (delivery_of.Skip name upto) sent = λ here. IsGivenUp-later upto (sent here)
  WasSent-later (delivery_of.Tick moment) sent = tt
  WasSent-later (delivery_of.Import rows) sent = tt

  WereSent-later : (ds : List Delivery) → WereSent earlier p ds → WereSent later p ds
  WereSent-later [] sent = tt
  WereSent-later (d ∷ ds) sent = (WasSent-later d sent.0, WereSent-later ds sent.1)

pub sent-stays : SentStaysSent
sent-stays earlier later p ds goes sent = WereSent-later earlier later p goes ds sent
