-- Numbers of deliveries stay in their ranges.
use Rattle.std.proofs.Common.{◌≡◌, ◌≢◌, ℕ, suc, zero, ◌+◌, ◌-◌, ◌<◌, ◌≤◌, ◌&&◌, true, false, cond, List, [], ◌∷◌, Option, Some, None, is_some, max}
use Rattle.std.proofs.Common.{refl, sym, ap, ◌∙◌, subst, arith, inl, inr, Bool, nat_le, nat_lt, ℤ, pos, negsuc, IfSome}
use Rattle.std.specs.List.{All, flat_map}
use Rattle.std.specs.Str.{bytes_eq}
use Rattle.std.proofs.lemmas.List.Elements.{All-cons, All-nil}
use Rattle.std.proofs.lemmas.Bool.Decides.{nat_tests}
use Rattle.std.proofs.lemmas.Bool.{cases_Bool, cases_lt, false≢true}
use Rattle.points.specs.declared.content.Content.{Content}
use Rattle.store.specs.Change.{IsNumber}
use Rattle.points.specs.Texts.{Text}
use Rattle.window.specs.declared.numbered_content.NumberedContent.{NumberedContent}
use Rattle.points.specs.declared.numbered_row.TheConstants.{LAST_NUMBER}
use Rattle.window.specs.Applied.{applied, and_at, contents_from}
use Rattle.window.specs.Plan.{parked_by}
use Rattle.window.specs.Taken as asks
use Rattle.window.proofs.AppliedLemmas.{content_at-take_command, content_at-take_skip}
use Rattle.window.proofs.FrontLemmas.{IsFront-front, take-accepted, take-refused}
use Rattle.window.proofs.PlanLemmas.{take-skip_accepted, take-skip_refused}
use Rattle.building.specs.Building.{Building}
use Rattle.deliveries.specs.declared.delivery.Delivery.{Delivery}
use Rattle.deliveries.specs.declared.delivery.Delivery.TheVariants as delivery_of
use Rattle.deliveries.specs.Accepted.{ask_command, ask_skip, asked, asks_of, listed, number_upto, panel_named, panel_of, taken_by}
use Rattle.window.proofs.TakenLemmas.{taken-append}

-- what a panel asks with a number in its range
abbrev IsInRange : asks.Ask → Type 0
IsInRange (asks.Command number content) = number ≤ LAST_NUMBER
IsInRange (asks.Skip upto) = upto ≤ LAST_NUMBER + 1

-- what was accepted lies in the range of numbers
record LiesInRange (t : asks.Taken) : Type 0 where
  least : 1 ≤ t.upto
  greatest : t.upto ≤ LAST_NUMBER + 1
  keys : (number : ℕ) → LAST_NUMBER < number → asks.is_key t number ≡ false

LiesInRange-opening : LiesInRange asks.opening
LiesInRange-opening = record { least = omega arith; greatest = omega arith; keys = λ number past. refl }

upto-command : (t : asks.Taken) (m : ℕ) (content : Content) → (asks.take t (asks.Command m content)).upto ≡ t.upto
upto-command t m content = elim (cases_Bool (asks.accepts t m)) [
  | inl accepted ↦ ap (λ (u : asks.Taken). u.upto) (take-accepted t m content accepted)
  | inr refused ↦ ap (λ (u : asks.Taken). u.upto) (take-refused t m content refused)
]

LiesInRange-take : (t : asks.Taken) (ask : asks.Ask) → IsInRange ask → LiesInRange t → LiesInRange (asks.take t ask)
LiesInRange-take t (asks.Command m content) within lies =
    let stays = upto-command t m content in
    let least = lies.least in
    let greatest = lies.greatest in
    record {
      least = omega (arith, stays, least);
      greatest = omega (arith, stays, greatest);
      keys = λ number past.
          let apart : m ≢ number = omega (arith, within, past) in
          ap is_some (content_at-take_command t m number content apart) ∙ lies.keys number past;
    }
LiesInRange-take t (asks.Skip upto) within lies =
    elim (cases_Bool (asks.accepts_skip t upto)) [
      | inl accepted ↦
          let limit : (asks.take t (asks.Skip upto)).upto ≡ max t.upto upto =
          ap (λ (u : asks.Taken). u.upto) (take-skip_accepted t upto accepted) in
          let least = lies.least in
          let greatest = lies.greatest in
          record {
            least = omega (arith, limit, least);
            greatest = omega (arith, limit, greatest, within);
            keys = λ number past. ap is_some (content_at-take_skip t upto number) ∙ lies.keys number past;
          }
      | inr refused ↦ subst LiesInRange (sym (take-skip_refused t upto refused)) lies
    ]

LiesInRange-listed : (t : asks.Taken) (ask : Option asks.Ask) → ((a : asks.Ask) → ask ≡ Some a → IsInRange a) → LiesInRange t
    → LiesInRange (asks.taken t (listed ask))
LiesInRange-listed t None within lies = lies
LiesInRange-listed t (Some ask) within lies = LiesInRange-take t ask (within ask refl) lies

number_upto-most : (last : ℕ) (z : ℤ) (number : ℕ) → number_upto last z ≡ Some number → (1 ≤ number) × (number ≤ last)
number_upto-most last (pos n) number e = elim (cases_Bool (nat_le 1 n && nat_le n last)) [
  | inl within ↦
      let here : Some n ≡ Some number = rw within at e in
      let same : n ≡ number = cc in
      let both : (1 ≤ n) × (n ≤ last) = (grind (arith, nat_tests), grind (arith, nat_tests)) in
      subst (λ k. (1 ≤ k) × (k ≤ last)) same both
  | inr out ↦ let none : None ≡ Some number = rw out at e in absurd cc
]
number_upto-most last (negsuc n) number e = absurd cc

ask_command-is : (found : Option ℕ) (content : Content) (ask : asks.Ask) → ((n : ℕ) → found ≡ Some n → n ≤ LAST_NUMBER)
    → ask_command found content ≡ Some ask → IsInRange ask
ask_command-is None content ask most e = absurd cc
ask_command-is (Some n) content ask most e = let same : asks.Command n content ≡ ask = cc in subst IsInRange same (most n refl)

ask_skip-is : (found : Option ℕ) (ask : asks.Ask) → ((n : ℕ) → found ≡ Some n → n ≤ LAST_NUMBER + 1) → ask_skip found ≡ Some ask
    → IsInRange ask
ask_skip-is None ask most e = absurd cc
ask_skip-is (Some n) ask most e = let same : asks.Skip n ≡ ask = cc in subst IsInRange same (most n refl)

asked-in_range : (d : Delivery) (ask : asks.Ask) → asked d ≡ Some ask → IsInRange ask
asked-in_range (delivery_of.Command panel number content) ask e =
    ask_command-is (number_upto LAST_NUMBER number) content ask (λ n found. (number_upto-most LAST_NUMBER number n found).1) e
asked-in_range (delivery_of.Skip panel upto) ask e =
    ask_skip-is (number_upto (LAST_NUMBER + 1) upto) ask (λ n found. (number_upto-most (LAST_NUMBER + 1) upto n found).1) e
asked-in_range (delivery_of.Tick moment) ask e = absurd cc
asked-in_range (delivery_of.Import rows) ask e = absurd cc

LiesInRange-asks_of : (b : Building) (p : Text) (t : asks.Taken) (d : Delivery) → LiesInRange t → LiesInRange (asks.taken t (asks_of b p d))
LiesInRange-asks_of b p t d lies = elim (bytes_eq (panel_of d) p && is_some (panel_named b p)) as
    (λ here. LiesInRange (asks.taken t (cond here (listed (asked d)) []))) [
      | true ↦ LiesInRange-listed t (asked d) (asked-in_range d) lies
      | false ↦ lies
    ]

LiesInRange-taken : (b : Building) (p : Text) (t : asks.Taken) (ds : List Delivery) → LiesInRange t
    → LiesInRange (asks.taken t (flat_map (asks_of b p) ds))
LiesInRange-taken b p t [] lies = lies
LiesInRange-taken b p t (d ∷ ds) lies =
    subst LiesInRange (sym (taken-append t (asks_of b p d) (flat_map (asks_of b p) ds)))
    (LiesInRange-taken b p (asks.taken t (asks_of b p d)) ds (LiesInRange-asks_of b p t d lies))

-- a number under which something was accepted of a panel is in range
pub key_greatest : (b : Building) (p : Text) (ds : List Delivery) (number : ℕ) → asks.is_key (taken_by b p ds) number ≡ true
    → number ≤ LAST_NUMBER
key_greatest b p ds number key =
    let lies = LiesInRange-taken b p asks.opening ds LiesInRange-opening in
    elim (cases_lt LAST_NUMBER number) [
      | inl past ↦ absurd (false≢true (sym (lies.keys number past) ∙ key))
      | inr within ↦ within
    ]

pub front_least : (b : Building) (p : Text) (ds : List Delivery) → 1 ≤ asks.front (taken_by b p ds)
front_least b p ds =
    let least = (LiesInRange-taken b p asks.opening ds LiesInRange-opening).least in
    let above = (IsFront-front (taken_by b p ds)).given_up in
    omega (arith, least, above)

pub front_greatest : (b : Building) (p : Text) (ds : List Delivery) → asks.front (taken_by b p ds) ≤ LAST_NUMBER + 1
front_greatest b p ds =
    let t = taken_by b p ds in
    let lies = LiesInRange-taken b p asks.opening ds LiesInRange-opening in
    elim (cases_lt (LAST_NUMBER + 1) (asks.front t)) [
      | inl past ↦
          absurd (false≢true (sym (lies.keys (LAST_NUMBER + 1) (omega arith))
          ∙ (IsFront-front t).least (LAST_NUMBER + 1) lies.greatest past))
      | inr within ↦ within
    ]

-- the numbers of contents in a row

All-and_at : (P : NumberedContent → Type 0) (from : ℕ) (content : Option Content) (rest : List NumberedContent)
    → ((c : Content) → P (record { number = from; content = c })) → All P rest → All P (and_at from content rest)
All-and_at P from None rest here all = all
All-and_at P from (Some content) rest here all = All-cons P (record { number = from; content = content }) rest (here content) all

All-contents_from : (P : NumberedContent → Type 0) (count : ℕ) (t : asks.Taken) (from : ℕ)
    → ((number : ℕ) (c : Content) → from ≤ number → number < from + count → P (record { number = number; content = c }))
    → All P (contents_from count t from)
All-contents_from P zero t from holds = All-nil P
All-contents_from P (suc count) t from holds =
    All-and_at P from (asks.content_at t from) _ (λ c. holds from c (omega arith) (omega arith))
    (All-contents_from P count t (from + 1) (λ number c least below. holds number c (omega (arith, least)) (omega (arith, below))))

-- the commands that are acted on have numbers in range
pub applied-in_range : (b : Building) (p : Text) (ds more : List Delivery)
    → All (λ (entry : NumberedContent). IsNumber entry.number) (applied (taken_by b p ds) (taken_by b p more))
unfolding applied
applied-in_range b p ds more =
    let old = taken_by b p ds in
    let new = taken_by b p more in
    let first = front_least b p ds in
    let last = front_greatest b p more in
    All-contents_from (λ entry. IsNumber entry.number) (asks.front new - asks.front old) new (asks.front old) (λ number c least below.
    record { least = omega (arith, first, least); greatest = omega (arith, last, least, below) })

-- a command that is parked has a number in range
pub parked-in_range : (b : Building) (p : Text) (ds : List Delivery) (d : Delivery) (ask : asks.Ask) → asked d ≡ Some ask
    → IfSome (parked_by (taken_by b p ds) ask) (λ (entry : NumberedContent). IsNumber entry.number)
parked-in_range b p ds d (asks.Skip upto) asking = tt
parked-in_range b p ds d (asks.Command number content) asking =
    let t = taken_by b p ds in
    let last = asked-in_range d (asks.Command number content) asking in
    let least = front_least b p ds in
    elim (cases_Bool (asks.accepts t number && nat_lt (asks.front t) number)) [
      | inl parks ↦
          let past : asks.front t < number = past_front (asks.accepts t number) (asks.front t) number parks in
          rw parks (record { least = omega (arith, least, past); greatest = omega (arith, last) })
      | inr not ↦ rw not tt
    ]
  where
    past_front : (accepted : Bool) (front number : ℕ) → (accepted && nat_lt front number) ≡ true → front < number
    past_front true front number parks = grind (arith, nat_tests)
    past_front false front number parks = absurd (false≢true parks)
