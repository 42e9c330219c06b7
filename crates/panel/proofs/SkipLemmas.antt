-- What the reply to a skip tells.
use Rattle.std.proofs.Common.{◌≡◌, ℕ, ◌+◌, ◌-◌, ◌≤◌, ◌==◌, Bool, true, false, cond, List, [], ◌∷◌, ◌++◌, Option, Some, None, ℤ, not}
use Rattle.std.proofs.Common.{refl, sym, ap, ◌∙◌, subst, append_assoc, arith, nat_lt}
use Rattle.std.specs.Option.{option_map_or}
use Rattle.std.specs.Str.{bytes_eq}
use Rattle.points.specs.ContentEq.{content_eq}
use Rattle.points.specs.declared.answer.Answer.{Answer}
use Rattle.points.specs.declared.command_row.CommandRow.{CommandRow}
use Rattle.points.specs.declared.command_row.CommandState.{CommandState}
use Rattle.points.specs.declared.command_row.CommandState.TheVariants as state
use Rattle.points.specs.declared.content.Content.{Content}
use Rattle.points.specs.declared.panel.Panel.{Panel}
use Rattle.sched.specs.declared.calendar.CalendarEntry.{CalendarEntry}
use Rattle.points.specs.Texts.{Text}
use Rattle.window.specs.declared.verdict.Verdict.TheVariants as verdict
use Rattle.window.specs.Taken as asks
use Rattle.window.specs.Verdict.{verdict_by, verdict_of}
use Rattle.window.specs.Window.{remembered, window}
use Rattle.building.specs.Building.{Building}
use Rattle.deliveries.specs.declared.delivery.Delivery.{Delivery}
use Rattle.deliveries.specs.declared.delivery.Delivery.TheVariants as delivery_of
use Rattle.deliveries.specs.declared.reply.Reply.{Reply}
use Rattle.deliveries.specs.declared.reply.Reply.TheVariants as answer_of
use Rattle.deliveries.specs.Accepted.{asked, panel_named, panel_of, taken_by}
use Rattle.deliveries.specs.Events.{is_later, is_moment, last_tick_of, machine}
use Rattle.deliveries.specs.Machine.{writes_of}
use Rattle.deliveries.specs.Reply.{imported_reply, refused_record, reply, reply_on}
use Rattle.deliveries.proofs.StepLemmas.{Asks, IsSent, reply-asked, reply-bad_number, reply-unknown}
use Rattle.panel.specs.Laws.{SkipsAreTrue}
use Rattle.panel.specs.Means.{next_in_reply}
use Rattle.panel.proofs.CommandLemmas.{one_name}
use Rattle.panel.proofs.GrowLemmas.{Grows-by}

none_some : (n : ℕ) → None ≡ Some n → ⊥
none_some n e = cc

some_is : (x y : ℕ) → Some x ≡ Some y → x ≡ y
some_is x y e = cc

module _ (next after : ℕ) (number : ℤ) (answer : Answer) where
  state-tells : (s : CommandState) → next_in_reply (reply_on (verdict.Repeat s) next after number answer) ≡ None
  state-tells state.Parked = refl
  state-tells (state.Answered kept) = refl

  row-tells : (same : Bool) (row : CommandRow)
      → next_in_reply (reply_on (cond same (verdict.Repeat row.state) verdict.Differs) next after number answer) ≡ None
  row-tells true row = state-tells row.state
  row-tells false row = refl

  missing-tells : (below here near : Bool)
      → next_in_reply (reply_on (cond below verdict.Skipped (cond here verdict.Applies (cond near verdict.Parked verdict.TooFar)))
      next after number answer) ≡ None
  missing-tells true here near = refl
  missing-tells false true near = refl
  missing-tells false false true = refl
  missing-tells false false false = refl

  kept-tells : (t : asks.Taken) (n : ℕ) (content : Content) (row : Option CommandRow)
      → next_in_reply (reply_on (verdict_by row t n content) next after number answer) ≡ None
  kept-tells t n content None = missing-tells (nat_lt n (asks.front t)) (n == asks.front t) (nat_lt n (asks.front t + window))
  kept-tells t n content (Some row) = row-tells (content_eq row.content content) row

  command-tells : (old : Bool) (t : asks.Taken) (n : ℕ) (content : Content) (row : Option CommandRow)
      → next_in_reply (reply_on (cond old verdict.Forgotten (verdict_by row t n content)) next after number answer) ≡ None
  command-tells true t n content row = refl
  command-tells false t n content row = kept-tells t n content row

  skip-tells : (far : Bool) (reported : ℕ)
      → next_in_reply (reply_on (cond far verdict.TooFar verdict.SkipDone) next after number answer) ≡ Some reported → reported ≡ after
  skip-tells true reported e = absurd (none_some reported e)
  skip-tells false reported e = sym (some_is after reported e)

ask-tells : (t : asks.Taken) (ask : asks.Ask) (row : Option CommandRow) (next after : ℕ) (number : ℤ) (answer : Answer) (reported : ℕ)
    → next_in_reply (reply_on (verdict_of t ask row) next after number answer) ≡ Some reported → reported ≡ after
ask-tells t (asks.Command n content) row next after number answer reported e =
    absurd (none_some reported
    (sym (command-tells next after number answer (nat_lt n (asks.front t - remembered)) t n content row) ∙ e))
ask-tells t (asks.Skip upto) row next after number answer reported e =
    skip-tells next after number answer (nat_lt (asks.front t + window) upto) reported e

-- the next number in the reply to a panel's delivery is the front after it
sent-reported : (b : Building) (E : List Delivery) (d : Delivery) (reported : ℕ) → IsSent d → next_in_reply (reply b E d) ≡ Some reported
    → reported ≡ asks.front (taken_by b (panel_of d) (E ++ d ∷ []))
sent-reported b E d reported sent e = by (panel_named b (panel_of d)) refl (asked d) refl
  where
    by : (found : Option Panel) → panel_named b (panel_of d) ≡ found → (ask : Option asks.Ask) → asked d ≡ ask
        → reported ≡ asks.front (taken_by b (panel_of d) (E ++ d ∷ []))
    by None unknown ask is = absurd (none_some reported (sym (ap next_in_reply (reply-unknown b E d sent unknown)) ∙ e))
    by (Some panel) known None is = absurd (none_some reported (sym (ap next_in_reply (reply-bad_number b E d panel sent known is)) ∙ e))
    by (Some panel) known (Some ask) is =
        let asking : Asks b d ask = record { panel = panel; known = known; asks_it = is } in
        ask-tells (taken_by b (panel_of d) E) ask _ _ _ _ _ reported (sym (ap next_in_reply (reply-asked b E d ask asking)) ∙ e)

tick-reported : (b : Building) (E : List Delivery) (moment : ℤ) (reported : ℕ) → next_in_reply (reply b E (delivery_of.Tick moment)) ≡ Some reported → ⊥
unfolding reply
tick-reported b E moment reported e = by (is_moment b moment) (is_later (last_tick_of b E) moment) e
  where
    by : (moments later : Bool)
        → next_in_reply (cond (not moments) answer_of.BadMoment
        (cond later (answer_of.Ticked (writes_of b (machine b E) (Some moment))) answer_of.Old)) ≡ Some reported → ⊥
    by false later is = none_some reported is
    by true true is = none_some reported is
    by true false is = none_some reported is

import-reported : (b : Building) (E : List Delivery) (rows : List CalendarEntry) (reported : ℕ)
    → next_in_reply (reply b E (delivery_of.Import rows)) ≡ Some reported → ⊥
unfolding reply
import-reported b E rows reported e = by (refused_record b rows) e
  where
    by : (refused : Option ℕ)
        → next_in_reply (option_map_or answer_of.ImportRefused refused (imported_reply b (machine b E) rows)) ≡ Some reported → ⊥
    by None is = none_some reported is
    by (Some at) is = none_some reported is

front-reported : (b : Building) (E : List Delivery) (p : Text) (d : Delivery) (reported : ℕ) → bytes_eq (panel_of d) p ≡ true
    → next_in_reply (reply b E d) ≡ Some reported → reported ≡ asks.front (taken_by b p (E ++ d ∷ []))
front-reported b E p (delivery_of.Command name number content) reported here e =
    let d = delivery_of.Command name number content in
    sent-reported b E d reported tt e ∙ ap (λ (q : Text). asks.front (taken_by b q (E ++ d ∷ []))) (one_name p name here)
front-reported b E p (delivery_of.Skip name upto) reported here e =
    let d = delivery_of.Skip name upto in
    sent-reported b E d reported tt e ∙ ap (λ (q : Text). asks.front (taken_by b q (E ++ d ∷ []))) (one_name p name here)
front-reported b E p (delivery_of.Tick moment) reported here e = absurd (tick-reported b E moment reported e)
front-reported b E p (delivery_of.Import rows) reported here e = absurd (import-reported b E rows reported e)

pub skips-are-true : SkipsAreTrue
skips-are-true b p ds given next came reported =
    let E = came.before in
    let d = came.delivery in
    let is = front-reported b E p d next came.of_panel (sym (ap next_in_reply came.replied) ∙ reported) in
    let rises = (Grows-by b p (E ++ d ∷ []) came.after).rises in
    let joined : ds ≡ (E ++ d ∷ []) ++ came.after = came.in_list ∙ sym (append_assoc E (d ∷ []) came.after) in
    subst (λ (all : List Delivery). next ≤ asks.front (taken_by b p all)) (sym joined) (omega (arith, is, rises))
