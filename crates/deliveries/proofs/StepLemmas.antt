-- The tables and the reply after one delivery more, said of the tables before it.
use Rattle.std.proofs.Common.{◌≡◌, ◌&&◌, true, false, cond, List, [], ◌∷◌, ◌++◌, Option, Some, None, is_some, option_map}
use Rattle.std.proofs.Common.{refl, sym, ap, ◌∙◌, subst, inl, inr}
use Rattle.std.specs.List.{list_any}
use Rattle.std.specs.Str.{bytes_eq}
use Rattle.std.proofs.lemmas.List.{append-nil}
use Rattle.std.proofs.lemmas.Bool.{cases_Bool}
use Rattle.std.proofs.lemmas.Slice.Eq.{bytes_eq-Decides}
use Rattle.points.specs.declared.command_row.CommandRow.{CommandRow}
use Rattle.points.specs.declared.content.Content.{Content}
use Rattle.points.specs.declared.panel.Panel.{Panel}
use Rattle.store.specs.Tables.{Tables}
use Rattle.points.specs.Texts.{Text}
use Rattle.window.specs.declared.plan.Plan.{Plan}
use Rattle.window.specs.Applied.{applied}
use Rattle.window.specs.Plan.{Plans}
use Rattle.window.specs.Taken as asks
use Rattle.window.specs.View.{Keeps, kept_at, content_of_row}
use Rattle.window.proofs.PlanLemmas.{applied-same_front}
use Rattle.building.specs.Building.{Building}
use Rattle.deliveries.specs.declared.delivery.Delivery.{Delivery}
use Rattle.deliveries.specs.declared.delivery.Delivery.TheVariants.{Command, Skip, Tick, Import}
use Rattle.deliveries.specs.declared.reply.Reply.{Reply}
use Rattle.deliveries.specs.declared.reply.Reply.TheVariants as answer_of
use Rattle.deliveries.specs.Accepted.{asked, asks_of, listed, panel_named, panel_of, taken_by}
use Rattle.deliveries.specs.Events.{acted_on, clock_event, commands_of, events_of, machine}
use Rattle.deliveries.specs.Machine.{Machine, run}
use Rattle.deliveries.specs.Reply.{reply, reply_by_clock, reply_in_range, reply_of_panel, reply_to}
use Rattle.deliveries.specs.Tables.{row_at, row_of, tables}
use Rattle.deliveries.proofs.EventLemmas.{machine-push, taken_by-push}
use Rattle.deliveries.proofs.MachineLemmas.{bytes_eq-same}
use Rattle.window.proofs.TakenLemmas.{take-unmoved}

-- where nothing more is accepted of any panel, the tables stay

unfoldable pub tables-at : Machine → (Text → asks.Taken) → Tables
tables-at machine taken = record {
  places = machine.places;
  next = λ panel. asks.front (taken panel);
  row = λ panel number. row_at (taken panel) number (machine.answers panel number);
  shown = machine.shown;
  imported = λ calendar text. list_any (bytes_eq text) (machine.imported calendar);
  last_tick = machine.last_tick;
}

pub tables-is : (b : Building) (E : List Delivery) → tables b E ≡ tables-at (machine b E) (λ panel. taken_by b panel E)
unfolding tables tables-at
tables-is b E = refl

-- a delivery that a panel sent
abbrev pub IsSent : Delivery → Type 0
IsSent (Command panel number content) = Unit {0}
IsSent (Skip panel upto) = Unit {0}
IsSent (Tick moment) = ⊥
IsSent (Import rows) = ⊥

pub clock_event-sent : (b : Building) (E : List Delivery) (d : Delivery) → IsSent d → clock_event b E d ≡ []
clock_event-sent b E (Command panel number content) sent = refl
clock_event-sent b E (Skip panel upto) sent = refl
clock_event-sent b E (Tick moment) sent = absurd sent
clock_event-sent b E (Import rows) sent = absurd sent

pub acted_on-sent : (b : Building) (E : List Delivery) (d : Delivery) → IsSent d → acted_on b E d ≡ commands_of b E d
acted_on-sent b E d sent = ap (λ events. commands_of b E d ++ events) (clock_event-sent b E d sent) ∙ append-nil (commands_of b E d)

reply-sent : (b : Building) (E : List Delivery) (d : Delivery) (given : Reply) → IsSent d → reply_by_clock b E d given ≡ given
reply-sent b E (Command panel number content) given sent = refl
reply-sent b E (Skip panel upto) given sent = refl
reply-sent b E (Tick moment) given sent = absurd sent
reply-sent b E (Import rows) given sent = absurd sent

-- no commands, where nothing more is accepted
pub commands_of-same : (b : Building) (E : List Delivery) (d : Delivery) → taken_by b (panel_of d) (E ++ d ∷ []) ≡ taken_by b (panel_of d) E
    → commands_of b E d ≡ []
commands_of-same b E d same =
    let t = taken_by b (panel_of d) E in
    ap (λ u. events_of (panel_of d) (applied t u)) same ∙ ap (events_of (panel_of d)) (applied-same_front t t refl)

pub tables-same : (b : Building) (E : List Delivery) (d : Delivery) → IsSent d → ((q : Text) → taken_by b q (E ++ d ∷ []) ≡ taken_by b q E)
    → tables b (E ++ d ∷ []) ≡ tables b E
tables-same b E d sent same =
    let none : acted_on b E d ≡ [] = acted_on-sent b E d sent ∙ commands_of-same b E d (same (panel_of d)) in
    let machines : machine b (E ++ d ∷ []) ≡ machine b E = machine-push b E d ∙ ap (run b (machine b E)) none in
    tables-is b (E ++ d ∷ []) ∙ (λ i. tables-at (machines i) (λ q. same q i)) ∙ sym (tables-is b E)

pub asks-none : (b : Building) (q : Text) (d : Delivery) → asked d ≡ None → asks_of b q d ≡ []
asks-none b q d none =
    elim (bytes_eq (panel_of d) q && is_some (panel_named b q)) as (λ t. cond t (listed (asked d)) [] ≡ [])
    [ true ↦ ap listed none | false ↦ refl ]

pub asks-unknown : (b : Building) (q : Text) (d : Delivery) → panel_named b (panel_of d) ≡ None → asks_of b q d ≡ []
asks-unknown b q d unknown = elim (cases_Bool (bytes_eq (panel_of d) q)) [
  | inl same ↦
      let here : panel_named b q ≡ None = ap (panel_named b) (sym ((bytes_eq-Decides (panel_of d) q).0 same)) ∙ unknown in
      rw (same, here) refl
  | inr other ↦ rw other refl
]

-- a delivery of a panel that the building lacks
pub tables-unknown : (b : Building) (E : List Delivery) (d : Delivery) → IsSent d → panel_named b (panel_of d) ≡ None
    → tables b (E ++ d ∷ []) ≡ tables b E
tables-unknown b E d sent unknown =
    tables-same b E d sent (λ q. taken_by-push b q E d ∙ ap (asks.taken (taken_by b q E)) (asks-unknown b q d unknown))

pub reply-unknown : (b : Building) (E : List Delivery) (d : Delivery) → IsSent d → panel_named b (panel_of d) ≡ None
    → reply b E d ≡ answer_of.NoPanel
unfolding reply
reply-unknown b E d sent unknown = reply-sent b E d _ sent ∙ ap (reply_of_panel b E d) unknown

-- a delivery whose number is out of range
pub tables-bad_number : (b : Building) (E : List Delivery) (d : Delivery) → IsSent d → asked d ≡ None → tables b (E ++ d ∷ []) ≡ tables b E
tables-bad_number b E d sent none =
    tables-same b E d sent (λ q. taken_by-push b q E d ∙ ap (asks.taken (taken_by b q E)) (asks-none b q d none))

pub reply-bad_number : (b : Building) (E : List Delivery) (d : Delivery) (panel : Panel) → IsSent d
    → panel_named b (panel_of d) ≡ Some panel
    → asked d ≡ None → reply b E d ≡ answer_of.BadNumber
unfolding reply
reply-bad_number b E d panel sent known none =
    reply-sent b E d _ sent ∙ (ap (reply_of_panel b E d) known ∙ ap (reply_in_range b E d) none)

-- a delivery of a known panel whose number is in range
pub record Asks (b : Building) (d : Delivery) (ask : asks.Ask) : Type 0 where
  pub panel : Panel
  pub known : panel_named b (panel_of d) ≡ Some panel
  pub asks_it : asked d ≡ Some ask

asks-sent : (d : Delivery) (ask : asks.Ask) → asked d ≡ Some ask → IsSent d
asks-sent (Command panel number content) ask e = tt
asks-sent (Skip panel upto) ask e = tt
asks-sent (Tick moment) ask e = cc
asks-sent (Import rows) ask e = cc

pub Asks-sent : (b : Building) (d : Delivery) (ask : asks.Ask) → Asks b d ask → IsSent d
Asks-sent b d ask asking = asks-sent d ask asking.asks_it

pub reply-asked : (b : Building) (E : List Delivery) (d : Delivery) (ask : asks.Ask) → Asks b d ask → reply b E d ≡ reply_to b E d ask
unfolding reply
reply-asked b E d ask asking =
    reply-sent b E d _ (Asks-sent b d ask asking) ∙ (ap (reply_of_panel b E d) asking.known ∙ ap (reply_in_range b E d) asking.asks_it)

asks-here : (b : Building) (d : Delivery) (ask : asks.Ask) → Asks b d ask → asks_of b (panel_of d) d ≡ ask ∷ []
asks-here b d ask asking = rw (bytes_eq-same (panel_of d), asking.known, asking.asks_it) refl

pub taken-here : (b : Building) (E : List Delivery) (d : Delivery) (ask : asks.Ask) → Asks b d ask
    → taken_by b (panel_of d) (E ++ d ∷ []) ≡ asks.take (taken_by b (panel_of d) E) ask
taken-here b E d ask asking = taken_by-push b (panel_of d) E d ∙ ap (asks.taken (taken_by b (panel_of d) E)) (asks-here b d ask asking)

asks-apart : (b : Building) (q : Text) (d : Delivery) → bytes_eq (panel_of d) q ≡ false → asks_of b q d ≡ []
asks-apart b q d apart = rw apart refl

pub taken-apart : (b : Building) (E : List Delivery) (d : Delivery) (q : Text) → bytes_eq (panel_of d) q ≡ false
    → taken_by b q (E ++ d ∷ []) ≡ taken_by b q E
taken-apart b E d q apart = taken_by-push b q E d ∙ ap (asks.taken (taken_by b q E)) (asks-apart b q d apart)

pub machine-asked : (b : Building) (E : List Delivery) (d : Delivery) (ask : asks.Ask) → Asks b d ask → let t = taken_by b (panel_of d) E in
    machine b (E ++ d ∷ []) ≡ run b (machine b E) (events_of (panel_of d) (applied t (asks.take t ask)))
machine-asked b E d ask asking =
    machine-push b E d
    ∙ ap (run b (machine b E)) (acted_on-sent b E d (Asks-sent b d ask asking))
    ∙ ap (λ u. run b (machine b E) (events_of (panel_of d) (applied (taken_by b (panel_of d) E) u))) (taken-here b E d ask asking)

-- the rows keep what was accepted
pub keeps-tables : (b : Building) (E : List Delivery) (p : Text) → Keeps ((tables b E).row p) (taken_by b p E)
unfolding tables
keeps-tables b E p number = of (kept_at (taken_by b p E) number)
  where
    of : (content : Option Content) → content_of_row (option_map
        (row_of (asks.front (taken_by b p E)) number ((machine b E).answers p number)) content) ≡ content
    of None = refl
    of (Some content) = refl

pub next-tables : (b : Building) (E : List Delivery) (p : Text) → (tables b E).next p ≡ asks.front (taken_by b p E)
unfolding tables
next-tables b E p = refl

-- where an ask neither moves the front nor parks, the tables stay
pub tables-unmoved : (b : Building) (E : List Delivery) (d : Delivery) (ask : asks.Ask) (row : Option CommandRow) (plan : Plan)
    → Asks b d ask
    → Plans (taken_by b (panel_of d) E) ask row plan → plan.next ≡ asks.front (taken_by b (panel_of d) E) → plan.park ≡ None
    → tables b (E ++ d ∷ []) ≡ tables b E
tables-unmoved b E d ask row plan asking plans stays none = tables-same b E d (Asks-sent b d ask asking) same
  where
    same : (q : Text) → taken_by b q (E ++ d ∷ []) ≡ taken_by b q E
    same q = elim (cases_Bool (bytes_eq (panel_of d) q)) [
      | inl here ↦
          subst (λ p. taken_by b p (E ++ d ∷ []) ≡ taken_by b p E) ((bytes_eq-Decides (panel_of d) q).0 here)
          (taken-here b E d ask asking ∙ take-unmoved (taken_by b (panel_of d) E) ask (sym plans.next ∙ stays) (sym plans.park ∙ none))
      | inr apart ↦ taken-apart b E d q apart
    ]
