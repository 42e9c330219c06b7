-- What is missing below the front was given up.
use Rattle.std.proofs.Common.{◌≡◌, ℕ, ◌+◌, ◌<◌, ◌≤◌, Bool, true, false, cond, ◌&&◌, List, [], ◌∷◌, ◌++◌, Option, Some, None}
use Rattle.std.proofs.Common.{is_some, pos, negsuc, ℤ, max}
use Rattle.std.proofs.Common.{refl, sym, ap, ◌∙◌, arith, inl, inr, nat_le}
use Rattle.std.specs.List.{flat_map}
use Rattle.std.specs.Str.{bytes_eq}
use Rattle.std.proofs.lemmas.Bool.{cases_Bool, cases_lt, false≢true}
use Rattle.points.specs.declared.content.Content.{Content}
use Rattle.points.specs.Texts.{Text}
use Rattle.points.specs.declared.numbered_row.TheConstants.{LAST_NUMBER}
use Rattle.window.specs.Taken as asks
use Rattle.window.proofs.FrontLemmas.{IsFront-front, take-accepted, take-refused}
use Rattle.window.proofs.PlanLemmas.{take-skip_accepted, take-skip_refused}
use Rattle.building.specs.Building.{Building}
use Rattle.deliveries.specs.declared.delivery.Delivery.{Delivery}
use Rattle.deliveries.specs.declared.delivery.Delivery.TheVariants as delivery_of
use Rattle.deliveries.specs.Accepted.{asked, asks_of, ask_command, ask_skip, listed, number_upto, panel_named, panel_of, taken_by}
use Rattle.deliveries.proofs.AgainLemmas.{both-parts}
use Rattle.panel.specs.Laws.{OnlyGivenUpIsMissing}
use Rattle.panel.specs.Life.{IsGivenUp, IsPassed, IsWithin, Life, WasSent, WereSent}
use Rattle.panel.proofs.CommandLemmas.{done-below}

abbrev pub IsGiven : Life → asks.Ask → Type 0
IsGiven life (asks.Command n content) = Unit {0}
IsGiven life (asks.Skip upto) = IsWithin (life.first ∷ life.given_up) upto

abbrev pub AreGiven : Life → List asks.Ask → Type 0
AreGiven life [] = Unit {0}
AreGiven life (x ∷ xs) = IsGiven life x × AreGiven life xs

-- what lies below the skips' reach was given up
record Passes (life : Life) (t : asks.Taken) : Type 0 where
  own : (n : ℕ) → 1 ≤ n → life.first ≤ n → n < t.upto → IsPassed life.given_up n

within-passed : (uptos : List ℕ) (u n : ℕ) → IsWithin uptos u → n < u → IsPassed uptos n
within-passed [] u n within below = absurd within
within-passed (upto ∷ uptos) u n (inl near) below = inl (omega (arith, below, near))
within-passed (upto ∷ uptos) u n (inr more) below = inr (within-passed uptos u n more below)

given-passed : (life : Life) (u n : ℕ) → IsWithin (life.first ∷ life.given_up) u → life.first ≤ n → n < u → IsPassed life.given_up n
given-passed life u n (inl near) own below = absurd (omega (arith, near, own, below))
given-passed life u n (inr more) own below = within-passed life.given_up u n more below

upto-command : (t : asks.Taken) (n : ℕ) (content : Content) → (asks.take t (asks.Command n content)).upto ≡ t.upto
upto-command t n content = elim (cases_Bool (asks.accepts t n)) [
  | inl accepted ↦ ap (λ (u : asks.Taken). u.upto) (take-accepted t n content accepted)
  | inr refused ↦ ap (λ (u : asks.Taken). u.upto) (take-refused t n content refused)
]

Passes-take : (life : Life) (t : asks.Taken) (x : asks.Ask) → Passes life t → IsGiven life x → Passes life (asks.take t x)
Passes-take life t (asks.Command m content) passes is = record {
  own = λ n least own below. passes.own n least own (let level = upto-command t m content in omega (arith, below, level));
}
Passes-take life t (asks.Skip u) passes is = record { own = at }
  where
    at : (n : ℕ) → 1 ≤ n → life.first ≤ n → n < (asks.take t (asks.Skip u)).upto → IsPassed life.given_up n
    at n least own below = elim (cases_Bool (asks.accepts_skip t u)) [
      | inl accepted ↦
          let grown : (asks.take t (asks.Skip u)).upto ≡ max t.upto u = ap (λ (v : asks.Taken). v.upto) (take-skip_accepted t u accepted) in
          elim (cases_lt n u) [
            | inl low ↦ given-passed life u n is own low
            | inr high ↦ passes.own n least own (omega (arith, below, grown, high))
          ]
      | inr refused ↦
          let same = ap (λ (v : asks.Taken). v.upto) (take-skip_refused t u refused) in
          passes.own n least own (omega (arith, below, same))
    ]

Passes-taken : (life : Life) (t : asks.Taken) (xs : List asks.Ask) → Passes life t → AreGiven life xs → Passes life (asks.taken t xs)
Passes-taken life t [] passes are = passes
Passes-taken life t (x ∷ xs) passes are = Passes-taken life (asks.take t x) xs (Passes-take life t x passes are.0) are.1

AreGiven-append : (life : Life) (xs ys : List asks.Ask) → AreGiven life xs → AreGiven life ys → AreGiven life (xs ++ ys)
AreGiven-append life [] ys first more = more
AreGiven-append life (x ∷ xs) ys first more = (first.0, AreGiven-append life xs ys first.1 more)

AreGiven-cond : (life : Life) (c : Bool) (xs : List asks.Ask) → (c ≡ true → AreGiven life xs) → AreGiven life (cond c xs [])
AreGiven-cond life true xs are = are refl
AreGiven-cond life false xs are = tt

AreGiven-command : (life : Life) (number : Option ℕ) (content : Content) → AreGiven life (listed (ask_command number content))
AreGiven-command life None content = tt
AreGiven-command life (Some n) content = (tt, tt)

AreGiven-skip : (life : Life) (upto : ℤ) → IsGivenUp life upto → AreGiven life (listed (ask_skip (number_upto (LAST_NUMBER + 1) upto)))
AreGiven-skip life (pos u) given =
    elim (nat_le 1 u && nat_le u (LAST_NUMBER + 1)) as (λ b. AreGiven life (listed (ask_skip (cond b (Some u) None)))) [
      | true ↦ (given, tt)
      | false ↦ tt
    ]
AreGiven-skip life (negsuc u) given = tt

AreGiven-asked : (life : Life) (p : Text) (d : Delivery) → WasSent life p d → bytes_eq (panel_of d) p ≡ true
    → AreGiven life (listed (asked d))
AreGiven-asked life p (delivery_of.Command name number content) sent here = AreGiven-command life (number_upto LAST_NUMBER number) content
AreGiven-asked life p (delivery_of.Skip name upto) sent here = AreGiven-skip life upto (sent here)
AreGiven-asked life p (delivery_of.Tick moment) sent here = tt
AreGiven-asked life p (delivery_of.Import rows) sent here = tt

AreGiven-all : (b : Building) (life : Life) (p : Text) (ds : List Delivery) → WereSent life p ds
    → AreGiven life (flat_map (asks_of b p) ds)
AreGiven-all b life p [] sent = tt
AreGiven-all b life p (d ∷ ds) sent =
    AreGiven-append life (asks_of b p d) (flat_map (asks_of b p) ds)
    (AreGiven-cond life (bytes_eq (panel_of d) p && is_some (panel_named b p)) (listed (asked d))
    (λ e. AreGiven-asked life p d sent.0 (both-parts (bytes_eq (panel_of d) p) (is_some (panel_named b p)) e).0))
    (AreGiven-all b life p ds sent.1)

Passes-opening : (life : Life) → Passes life asks.opening
Passes-opening life = record { own = λ n least own below. absurd (omega (arith, least, below)) }

none_some : (content : Content) → None ≡ Some content → ⊥
none_some content e = cc

-- of its own numbers below the front
pub missing-given_up : OnlyGivenUpIsMissing
missing-given_up b life p ds n sent least own below none = by (asks.content_at t n) refl
  where
    t : asks.Taken
    t = taken_by b p ds

    passes : Passes life t
    passes = Passes-taken life asks.opening (flat_map (asks_of b p) ds) (Passes-opening life) (AreGiven-all b life p ds sent)

    by : (found : Option Content) → asks.content_at t n ≡ found → IsPassed life.given_up n
    by (Some c) e = absurd (none_some c (sym none ∙ (done-below b p ds n least below ∙ e)))
    by None e = elim (cases_lt n t.upto) [
      | inl low ↦ passes.own n least own low
      | inr high ↦ absurd (false≢true (sym (ap is_some e) ∙ (IsFront-front t).least n high below))
    ]
