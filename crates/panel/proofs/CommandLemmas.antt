-- The commands of a panel that are acted on are what its front has passed.
use Rattle.std.proofs.Common.{◌≡◌, ℕ, ◌-◌, ◌<◌, ◌≤◌, Bool, true, false, cond, ◌&&◌, List, [], ◌∷◌, ◌++◌, None}
use Rattle.std.proofs.Common.{refl, sym, ap, ap₂, ◌∙◌, append_assoc, arith}
use Rattle.std.specs.List.{list_all}
use Rattle.std.specs.Str.{bytes_eq}
use Rattle.std.proofs.lemmas.Grind.{flat_map-append}
use Rattle.std.proofs.lemmas.List.{append-nil}
use Rattle.std.proofs.lemmas.Slice.Eq.{bytes_eq-Decides}
use Rattle.points.specs.Texts.{Text}
use Rattle.window.specs.declared.numbered_content.NumberedContent.{NumberedContent}
use Rattle.window.specs.Applied.{applied, contents_from}
use Rattle.window.specs.Taken as asks
use Rattle.window.proofs.AppliedLemmas.{content_in-applied, content_in-applied-past}
use Rattle.building.specs.Building.{Building}
use Rattle.deliveries.specs.declared.delivery.Delivery.{Delivery}
use Rattle.deliveries.specs.declared.delivery.Delivery.TheVariants as delivery_of
use Rattle.deliveries.specs.Accepted.{panel_of, taken_by}
use Rattle.deliveries.specs.Events.{acted_on, clock_event, commands_of, events_after, events_of, has_calendar, is_later}
use Rattle.deliveries.specs.Events.{is_moment, last_tick_of}
use Rattle.deliveries.specs.Machine.{Event, Import, Tick}
use Rattle.deliveries.proofs.RangeLemmas.{front_least}
use Rattle.deliveries.proofs.StepLemmas.{taken-apart}
use Rattle.panel.specs.Laws.{CommandsAreApplied}
use Rattle.panel.specs.Life.{command_by, commands_by}
use Rattle.panel.specs.Means.{commands_done}
use Rattle.panel.proofs.GrowLemmas.{Grows-by, applied-none, applied-split}

-- ---- commands of a panel among events

commands_by-append : (p : Text) (xs ys : List Event) → commands_by p (xs ++ ys) ≡ commands_by p xs ++ commands_by p ys
commands_by-append p xs ys = flat_map-append (command_by p) xs ys

commands_by-here : (p q : Text) (entries : List NumberedContent) → bytes_eq q p ≡ true → commands_by p (events_of q entries) ≡ entries
commands_by-here p q [] same = refl
commands_by-here p q (entry ∷ entries) same = rw same (ap (λ more. entry ∷ more) (commands_by-here p q entries same))

commands_by-apart : (p q : Text) (entries : List NumberedContent) → bytes_eq q p ≡ false → commands_by p (events_of q entries) ≡ []
commands_by-apart p q [] apart = refl
commands_by-apart p q (entry ∷ entries) apart = rw apart (commands_by-apart p q entries apart)

commands_by-clock : (b : Building) (p : Text) (E : List Delivery) (d : Delivery) → commands_by p (clock_event b E d) ≡ []
commands_by-clock b p E (delivery_of.Command panel number content) = refl
commands_by-clock b p E (delivery_of.Skip panel upto) = refl
commands_by-clock b p E (delivery_of.Tick moment) =
    elim (is_moment b moment && is_later (last_tick_of b E) moment) as (λ happens. commands_by p (cond happens (Tick moment ∷ []) []) ≡
    []) [
      | true ↦ refl
      | false ↦ refl
    ]
commands_by-clock b p E (delivery_of.Import rows) =
    elim (list_all (has_calendar b) rows) as (λ happens. commands_by p (cond happens (Import rows ∷ []) []) ≡ []) [
      | true ↦ refl
      | false ↦ refl
    ]

pub one_name : (p q : Text) → bytes_eq q p ≡ true → q ≡ p
one_name p q same = (bytes_eq-Decides q p).0 same

commands-of : (b : Building) (p : Text) (E : List Delivery) (d : Delivery)
    → commands_by p (commands_of b E d) ≡ applied (taken_by b p E) (taken_by b p (E ++ d ∷ []))
commands-of b p E d = by (bytes_eq (panel_of d) p) refl
  where
    by : (here : Bool) → bytes_eq (panel_of d) p ≡ here
        → commands_by p (commands_of b E d) ≡ applied (taken_by b p E) (taken_by b p (E ++ d ∷ []))
    by true e =
        commands_by-here p (panel_of d) (applied (taken_by b (panel_of d) E) (taken_by b (panel_of d) (E ++ d ∷ []))) e
        ∙ ap (λ q. applied (taken_by b q E) (taken_by b q (E ++ d ∷ []))) (one_name p (panel_of d) e)
    by false e =
        commands_by-apart p (panel_of d) (applied (taken_by b (panel_of d) E) (taken_by b (panel_of d) (E ++ d ∷ []))) e
        ∙ sym (ap (applied (taken_by b p E)) (taken-apart b E d p e) ∙ applied-none (taken_by b p E))

commands-acted_on : (b : Building) (p : Text) (E : List Delivery) (d : Delivery)
    → commands_by p (acted_on b E d) ≡ applied (taken_by b p E) (taken_by b p (E ++ d ∷ []))
commands-acted_on b p E d =
    commands_by-append p (commands_of b E d) (clock_event b E d)
    ∙ (ap₂ (λ xs ys. xs ++ ys) (commands-of b p E d) (commands_by-clock b p E d)
    ∙ append-nil (applied (taken_by b p E) (taken_by b p (E ++ d ∷ []))))

commands-after : (b : Building) (p : Text) (E ds : List Delivery)
    → commands_by p (events_after b E ds) ≡ applied (taken_by b p E) (taken_by b p (E ++ ds))
commands-after b p E [] = sym (ap (λ F. applied (taken_by b p E) (taken_by b p F)) (append-nil E) ∙ applied-none (taken_by b p E))
commands-after b p E (d ∷ ds) =
    let t = taken_by b p E in
    let u = taken_by b p (E ++ d ∷ []) in
    let more = taken_by b p ((E ++ d ∷ []) ++ ds) in
    commands_by-append p (acted_on b E d) (events_after b (E ++ d ∷ []) ds)
    ∙ (ap₂ (λ xs ys. xs ++ ys) (commands-acted_on b p E d) (commands-after b p (E ++ d ∷ []) ds)
    ∙ (sym (applied-split t u more (Grows-by b p E (d ∷ [])) (Grows-by b p (E ++ d ∷ []) ds))
    ∙ ap (λ F. applied t (taken_by b p F)) (append_assoc E (d ∷ []) ds)))

pub commands-applied : CommandsAreApplied
commands-applied b p ds = commands-after b p [] ds

pub front-opening : asks.front asks.opening ≡ 1
unfolding asks.front
front-opening = refl

pub applied-opening : (t : asks.Taken) → applied asks.opening t ≡ contents_from (asks.front t - 1) t 1
unfolding applied
applied-opening t = ap (λ n. contents_from (asks.front t - n) t n) front-opening

-- under a number below the front stands what was accepted there
pub done-below : (b : Building) (p : Text) (ds : List Delivery) (n : ℕ) → 1 ≤ n → n < asks.front (taken_by b p ds)
    → asks.content_in (commands_done b p ds) n ≡ asks.content_at (taken_by b p ds) n
done-below b p ds n least below =
    let from : asks.front asks.opening ≤ n = omega (arith, front-opening, least) in
    ap (λ entries. asks.content_in entries n) (commands-applied b p ds)
    ∙ content_in-applied asks.opening (taken_by b p ds) n from below

-- and nothing under one from the front on
pub done-past : (b : Building) (p : Text) (ds : List Delivery) (n : ℕ) → asks.front (taken_by b p ds) ≤ n
    → asks.content_in (commands_done b p ds) n ≡ None
done-past b p ds n past =
    let t = taken_by b p ds in
    let from : asks.front asks.opening ≤ asks.front t = omega (arith, front-opening, front_least b p ds) in
    ap (λ entries. asks.content_in entries n) (commands-applied b p ds)
    ∙ content_in-applied-past asks.opening t n from past
