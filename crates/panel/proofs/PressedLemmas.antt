-- What was accepted of a panel was pressed, and what is acted on is a part of it, in order.
use Rattle.std.proofs.Common.{◌≡◌, ◌⊎◌, ℕ, suc, zero, ◌+◌, ◌-◌, ◌<◌, ◌≤◌, Bool, true, false, cond, ◌&&◌, List, [], ◌∷◌, ◌++◌}
use Rattle.std.proofs.Common.{Option, Some, None, is_some, pos, negsuc, ℤ}
use Rattle.std.proofs.Common.{refl, sym, ap, ◌∙◌, subst, arith, inl, inr, nat_le}
use Rattle.std.specs.List.{flat_map}
use Rattle.std.specs.Str.{bytes_eq}
use Rattle.std.proofs.lemmas.Bool.Decides.{nat_tests}
use Rattle.std.proofs.lemmas.Bool.{cases_Bool, cases_eq}
use Rattle.points.specs.declared.content.Content.{Content}
use Rattle.points.specs.Texts.{Text}
use Rattle.window.specs.declared.numbered_content.NumberedContent.{NumberedContent}
use Rattle.points.specs.declared.numbered_row.TheConstants.{LAST_NUMBER}
use Rattle.window.specs.Applied.{and_at, contents_from}
use Rattle.window.specs.Taken as asks
use Rattle.window.proofs.AppliedLemmas.{content_at-take_command, content_at-take_accepted, content_at-take_skip}
use Rattle.window.proofs.FrontLemmas.{take-refused}
use Rattle.building.specs.Building.{Building}
use Rattle.deliveries.specs.declared.delivery.Delivery.{Delivery}
use Rattle.deliveries.specs.declared.delivery.Delivery.TheVariants as delivery_of
use Rattle.deliveries.specs.Accepted.{asked, asks_of, ask_command, ask_skip, listed, number_upto, panel_named, panel_of, taken_by}
use Rattle.deliveries.proofs.AgainLemmas.{both-parts}
use Rattle.panel.specs.Laws.{CommandsArePressed}
use Rattle.panel.specs.Life.{ArePressed, IsPressed, Life, RiseFrom, WasSent, WereSent, from_number}
use Rattle.panel.specs.Means.{commands_done}
use Rattle.panel.proofs.CommandLemmas.{applied-opening, commands-applied}

-- ---- what was accepted

-- under its own numbers stands what its life pressed
pub record Of (life : Life) (t : asks.Taken) : Type 0 where
  pub own : (k : ℕ) (c : Content) → life.first ≤ k → asks.content_at t k ≡ Some c → asks.content_in life.pressed k ≡ Some c

abbrev pub IsAsk : Life → asks.Ask → Type 0
IsAsk life (asks.Command n content) = (n < life.first) ⊎ (asks.content_in life.pressed n ≡ Some content)
IsAsk life (asks.Skip upto) = Unit {0}

abbrev pub AreAsks : Life → List asks.Ask → Type 0
AreAsks life [] = Unit {0}
AreAsks life (x ∷ xs) = IsAsk life x × AreAsks life xs

own-pressed : (life : Life) (n : ℕ) (content : Content) → life.first ≤ n
    → (n < life.first) ⊎ (asks.content_in life.pressed n ≡ Some content) → asks.content_in life.pressed n ≡ Some content
own-pressed life n content own (inl low) = absurd (omega (arith, own, low))
own-pressed life n content own (inr is) = is

Of-take : (life : Life) (t : asks.Taken) (x : asks.Ask) → Of life t → IsAsk life x → Of life (asks.take t x)
Of-take life t (asks.Skip upto) of is =
    record { own = λ k c low found. of.own k c low (sym (content_at-take_skip t upto k) ∙ found) }
Of-take life t (asks.Command m content) of is = record { own = at }
  where
    at : (k : ℕ) (c : Content) → life.first ≤ k → asks.content_at (asks.take t (asks.Command m content)) k ≡ Some c
        → asks.content_in life.pressed k ≡ Some c
    at k c low found = elim (cases_eq m k) [
      | inl same ↦ elim (cases_Bool (asks.accepts t m)) [
        | inl accepted ↦
            let here = subst (λ n. asks.content_at (asks.take t (asks.Command m content)) n ≡ Some content) same
            (content_at-take_accepted t m content accepted) in
            let is_here = subst (λ n. (n < life.first) ⊎ (asks.content_in life.pressed n ≡ Some content)) same is in
            own-pressed life k content low is_here ∙ (sym here ∙ found)
        | inr refused ↦ of.own k c low (sym (ap (λ u. asks.content_at u k) (take-refused t m content refused)) ∙ found)
      ]
      | inr apart ↦ of.own k c low (sym (content_at-take_command t m k content apart) ∙ found)
    ]

Of-taken : (life : Life) (t : asks.Taken) (xs : List asks.Ask) → Of life t → AreAsks life xs → Of life (asks.taken t xs)
Of-taken life t [] of are = of
Of-taken life t (x ∷ xs) of are = Of-taken life (asks.take t x) xs (Of-take life t x of are.0) are.1

AreAsks-append : (life : Life) (xs ys : List asks.Ask) → AreAsks life xs → AreAsks life ys → AreAsks life (xs ++ ys)
AreAsks-append life [] ys first more = more
AreAsks-append life (x ∷ xs) ys first more = (first.0, AreAsks-append life xs ys first.1 more)

AreAsks-cond : (life : Life) (c : Bool) (xs : List asks.Ask) → (c ≡ true → AreAsks life xs) → AreAsks life (cond c xs [])
AreAsks-cond life true xs are = are refl
AreAsks-cond life false xs are = tt

AreAsks-command : (life : Life) (number : ℤ) (content : Content) → IsPressed life number content
    → AreAsks life (listed (ask_command (number_upto LAST_NUMBER number) content))
AreAsks-command life (pos n) content is =
    elim (nat_le 1 n && nat_le n LAST_NUMBER) as (λ b. AreAsks life (listed (ask_command (cond b (Some n) None) content))) [
      | true ↦ (is, tt)
      | false ↦ tt
    ]
AreAsks-command life (negsuc n) content is = tt

AreAsks-skip : (life : Life) (upto : Option ℕ) → AreAsks life (listed (ask_skip upto))
AreAsks-skip life None = tt
AreAsks-skip life (Some upto) = (tt, tt)

AreAsks-asked : (life : Life) (p : Text) (d : Delivery) → WasSent life p d → bytes_eq (panel_of d) p ≡ true
    → AreAsks life (listed (asked d))
AreAsks-asked life p (delivery_of.Command name number content) sent here = AreAsks-command life number content (sent here)
AreAsks-asked life p (delivery_of.Skip name upto) sent here = AreAsks-skip life (number_upto (LAST_NUMBER + 1) upto)
AreAsks-asked life p (delivery_of.Tick moment) sent here = tt
AreAsks-asked life p (delivery_of.Import rows) sent here = tt

AreAsks-all : (b : Building) (life : Life) (p : Text) (ds : List Delivery) → WereSent life p ds
    → AreAsks life (flat_map (asks_of b p) ds)
AreAsks-all b life p [] sent = tt
AreAsks-all b life p (d ∷ ds) sent =
    AreAsks-append life (asks_of b p d) (flat_map (asks_of b p) ds)
    (AreAsks-cond life (bytes_eq (panel_of d) p && is_some (panel_named b p)) (listed (asked d))
    (λ e. AreAsks-asked life p d sent.0 (both-parts (bytes_eq (panel_of d) p) (is_some (panel_named b p)) e).0))
    (AreAsks-all b life p ds sent.1)

Of-opening : (life : Life) → Of life asks.opening
Of-opening life = record { own = λ k c low found. absurd cc }

pub Of-by : (b : Building) (life : Life) (p : Text) (ds : List Delivery) → WereSent life p ds → Of life (taken_by b p ds)
Of-by b life p ds sent =
    Of-taken life asks.opening (flat_map (asks_of b p) ds) (Of-opening life) (AreAsks-all b life p ds sent)

-- ---- what is acted on was pressed

ArePressed-cond : (pressed : List NumberedContent) (own : Bool) (entry : NumberedContent) (entries : List NumberedContent)
    → (own ≡ true → asks.content_in pressed entry.number ≡ Some entry.content) → ArePressed pressed entries
    → ArePressed pressed (cond own (entry ∷ entries) entries)
ArePressed-cond pressed true entry entries is more = (is refl, more)
ArePressed-cond pressed false entry entries is more = more

ArePressed-contents : (life : Life) (c : ℕ) (t : asks.Taken) (n : ℕ) → Of life t
    → ArePressed life.pressed (from_number life.first (contents_from c t n))
ArePressed-contents life zero t n of = tt
ArePressed-contents life (suc c) t n of = by (asks.content_at t n) refl (ArePressed-contents life c t (n + 1) of)
  where
    by : (found : Option Content) → asks.content_at t n ≡ found
        → ArePressed life.pressed (from_number life.first (contents_from c t (n + 1)))
        → ArePressed life.pressed (from_number life.first (and_at n found (contents_from c t (n + 1))))
    by None e more = more
    by (Some content) e more =
        ArePressed-cond life.pressed (nat_le life.first n) (record { number = n; content = content })
        (from_number life.first (contents_from c t (n + 1)))
        (λ own. of.own n content (grind (arith, nat_tests)) e) more

-- ---- they rise

pub RiseFrom-weaker : (from least : ℕ) (entries : List NumberedContent) → from ≤ least → RiseFrom least entries → RiseFrom from entries
RiseFrom-weaker from least [] below rise = tt
RiseFrom-weaker from least (entry ∷ entries) below rise = let first = rise.0 in (omega (arith, below, first), rise.1)

RiseFrom-and_at : (from : ℕ) (content : Option Content) (entries : List NumberedContent) → RiseFrom (from + 1) entries
    → RiseFrom from (and_at from content entries)
RiseFrom-and_at from None entries rise = RiseFrom-weaker from (from + 1) entries (omega arith) rise
RiseFrom-and_at from (Some content) entries rise = (omega arith, rise)

RiseFrom-contents : (c : ℕ) (t : asks.Taken) (from : ℕ) → RiseFrom from (contents_from c t from)
RiseFrom-contents zero t from = tt
RiseFrom-contents (suc c) t from =
    RiseFrom-and_at from (asks.content_at t from) (contents_from c t (from + 1)) (RiseFrom-contents c t (from + 1))

pub commands-rise : (b : Building) (p : Text) (ds : List Delivery) → RiseFrom 1 (commands_done b p ds)
commands-rise b p ds =
    let t = taken_by b p ds in
    subst (RiseFrom 1) (sym (commands-applied b p ds ∙ applied-opening t)) (RiseFrom-contents (asks.front t - 1) t 1)

pub commands-pressed : CommandsArePressed
commands-pressed b life p ds sent =
    let t = taken_by b p ds in
    let is = sym (commands-applied b p ds ∙ applied-opening t) in
    record {
      rise = commands-rise b p ds;
      pressed_so = subst (λ entries. ArePressed life.pressed (from_number life.first entries)) is
          (ArePressed-contents life (asks.front t - 1) t 1 (Of-by b life p ds sent));
    }
