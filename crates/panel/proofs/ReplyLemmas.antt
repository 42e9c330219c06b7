-- What the reply to a command says of it, whatever comes after.
use Rattle.std.proofs.Common.{◌≡◌, ℕ, ◌+◌, ◌-◌, ◌<◌, ◌≤◌, ◌==◌, Bool, true, false, cond, ◌&&◌, List, [], ◌∷◌, ◌++◌, Option, Some}
use Rattle.std.proofs.Common.{None, is_some, option_map, pos, negsuc, ℤ, not}
use Rattle.std.proofs.Common.{refl, sym, ap, ◌∙◌, subst, append_assoc, arith, inl, inr, nat_le, nat_lt}
use Rattle.std.specs.List.{list_all}
use Rattle.std.specs.Option.{option_map_or}
use Rattle.std.specs.Str.{bytes_eq}
use Rattle.std.proofs.lemmas.Bool.Decides.{nat_tests}
use Rattle.std.proofs.lemmas.Bool.{cases_Bool, false≢true}
use Rattle.std.proofs.lemmas.List.{append-nil}
use Rattle.points.specs.ContentEq.{content_eq}
use Rattle.points.specs.declared.answer.Answer.{Answer}
use Rattle.points.specs.declared.command_row.CommandState.TheVariants as state
use Rattle.points.specs.declared.content.Content.{Content}
use Rattle.points.specs.declared.panel.Panel.{Panel}
use Rattle.points.proofs.ContentLemmas.{content_eq-Decides}
use Rattle.sched.specs.declared.calendar.CalendarEntry.{CalendarEntry}
use Rattle.points.specs.Texts.{Text}
use Rattle.points.specs.declared.numbered_row.TheConstants.{LAST_NUMBER}
use Rattle.window.specs.declared.verdict.Verdict.{Verdict}
use Rattle.window.specs.declared.verdict.Verdict.TheVariants as verdict
use Rattle.window.specs.Applied.{applied}
use Rattle.window.specs.Taken as asks
use Rattle.window.specs.Verdict.{verdict_by, verdict_of}
use Rattle.window.specs.Window.{remembered, window}
use Rattle.window.proofs.AppliedLemmas.{content_at-take_accepted, content_in-applied-below}
use Rattle.window.proofs.FrontLemmas.{IsFront-front}
use Rattle.window.proofs.PlanLemmas.{accepts-front}
use Rattle.building.specs.Building.{Building}
use Rattle.deliveries.specs.declared.delivery.Delivery.{Delivery}
use Rattle.deliveries.specs.declared.delivery.Delivery.TheVariants as delivery_of
use Rattle.deliveries.specs.declared.reply.Reply.{Reply}
use Rattle.deliveries.specs.declared.reply.Reply.TheVariants as answer_of
use Rattle.deliveries.specs.Accepted.{asked, ask_command, ask_skip, number_upto, panel_named, panel_of, taken_by}
use Rattle.deliveries.specs.Events.{clock_event, commands_of, events_of, has_calendar, is_later, is_moment, last_tick_of, machine}
use Rattle.deliveries.specs.Machine.{Import, Machine, Tick, run, settled, writes_of}
use Rattle.deliveries.specs.Reply.{imported_reply, refused_record, reply, reply_on}
use Rattle.deliveries.specs.Tables.{row_of, tables}
use Rattle.deliveries.proofs.EventLemmas.{machine-push, run-append}
use Rattle.deliveries.proofs.MachineLemmas.{answers-apart, answers-elsewhere, bytes_eq-same}
use Rattle.deliveries.proofs.StepLemmas.{Asks, reply-asked, reply-bad_number, reply-unknown, taken-here}
use Rattle.panel.specs.Laws.{IsReported, RepliesAreTrue}
use Rattle.panel.specs.Life.{IsPressed, Life, WasSent, WereSent}
use Rattle.panel.specs.Means.{Means, WasDone, commands_done, ended_by, natural}
use Rattle.panel.proofs.CommandLemmas.{done-below, one_name}
use Rattle.panel.proofs.GivenUpLemmas.{missing-given_up}
use Rattle.panel.proofs.GrowLemmas.{Grows-by}
use Rattle.panel.proofs.PressedLemmas.{Of-by}

-- ---- the answer of a command that was acted on stays

answers-clock : (b : Building) (E : List Delivery) (d : Delivery) (m : Machine) → (run b m (clock_event b E d)).answers ≡ m.answers
unfolding settled
answers-clock b E (delivery_of.Command panel number content) m = refl
answers-clock b E (delivery_of.Skip panel upto) m = refl
answers-clock b E (delivery_of.Tick moment) m =
    elim (is_moment b moment && is_later (last_tick_of b E) moment)
    as (λ happens. (run b m (cond happens (Tick moment ∷ []) [])).answers ≡ m.answers) [ true ↦ refl | false ↦ refl ]
answers-clock b E (delivery_of.Import rows) m =
    elim (list_all (has_calendar b) rows)
    as (λ happens. (run b m (cond happens (Import rows ∷ []) [])).answers ≡ m.answers) [ true ↦ refl | false ↦ refl ]

answers-commands : (b : Building) (E : List Delivery) (d : Delivery) (m : Machine) (p : Text) (n : ℕ)
    → n < asks.front (taken_by b p E) → (run b m (commands_of b E d)).answers p n ≡ m.answers p n
answers-commands b E d m p n below = elim (cases_Bool (bytes_eq (panel_of d) p)) [
  | inl here ↦
      let q = panel_of d in
      let same : q ≡ p = one_name p q here in
      subst (λ (name : Text). (run b m (events_of name (applied (taken_by b name E) (taken_by b name (E ++ d ∷ []))))).answers p n ≡
      m.answers p n)
      (sym same)
      (answers-apart b m p n (applied (taken_by b p E) (taken_by b p (E ++ d ∷ [])))
      (content_in-applied-below (taken_by b p E) (taken_by b p (E ++ d ∷ [])) n below))
  | inr apart ↦
      let q = panel_of d in
      answers-elsewhere b m q p n (applied (taken_by b q E) (taken_by b q (E ++ d ∷ []))) apart
]

answers-push : (b : Building) (E : List Delivery) (d : Delivery) (p : Text) (n : ℕ) → n < asks.front (taken_by b p E)
    → (machine b (E ++ d ∷ [])).answers p n ≡ (machine b E).answers p n
answers-push b E d p n below =
    let m = machine b E in
    ap (λ (now : Machine). now.answers p n) (machine-push b E d ∙ run-append b m (commands_of b E d) (clock_event b E d))
    ∙ (ap (λ (answers : Text → ℕ → Answer). answers p n) (answers-clock b E d (run b m (commands_of b E d)))
    ∙ answers-commands b E d m p n below)

pub answers-stay : (b : Building) (E ds : List Delivery) (p : Text) (n : ℕ) → n < asks.front (taken_by b p E)
    → (machine b (E ++ ds)).answers p n ≡ (machine b E).answers p n
answers-stay b E [] p n below = ap (λ (all : List Delivery). (machine b all).answers p n) (append-nil E)
answers-stay b E (d ∷ ds) p n below =
    let rises = (Grows-by b p E (d ∷ [])).rises in
    ap (λ (all : List Delivery). (machine b all).answers p n) (sym (append_assoc E (d ∷ []) ds))
    ∙ (answers-stay b (E ++ d ∷ []) ds p n (omega (arith, below, rises)) ∙ answers-push b E d p n below)

-- ---- a reply that ends a command is one to it

none_some : (n : ℕ) → None ≡ Some n → ⊥
none_some n e = cc

natural-is : (number : ℤ) (n : ℕ) → natural number ≡ Some n → number ≡ pos n
natural-is (pos m) n e = let same : m ≡ n = cc in ap pos same
natural-is (negsuc m) n e = absurd (none_some n e)

number-ended : (v : Verdict) (next after : ℕ) (number : ℤ) (answer : Answer) (n : ℕ)
    → ended_by (reply_on v next after number answer) ≡ Some n → number ≡ pos n
number-ended verdict.Applies next after number answer n e = natural-is number n e
number-ended verdict.Parked next after number answer n e = absurd (none_some n e)
number-ended (verdict.Repeat state.Parked) next after number answer n e = absurd (none_some n e)
number-ended (verdict.Repeat (state.Answered kept)) next after number answer n e = natural-is number n e
number-ended verdict.Skipped next after number answer n e = natural-is number n e
number-ended verdict.Differs next after number answer n e = natural-is number n e
number-ended verdict.TooFar next after number answer n e = absurd (none_some n e)
number-ended verdict.SkipDone next after number answer n e = absurd (none_some n e)
number-ended verdict.Forgotten next after number answer n e = natural-is number n e

skip-ends_none : (far : Bool) (next after : ℕ) (number : ℤ) (answer : Answer) (n : ℕ)
    → ended_by (reply_on (cond far verdict.TooFar verdict.SkipDone) next after number answer) ≡ Some n → ⊥
skip-ends_none true next after number answer n e = none_some n e
skip-ends_none false next after number answer n e = none_some n e

-- a command of the panel under a number that the desk takes
record IsCommand (b : Building) (p : Text) (d : Delivery) (n : ℕ) : Type 0 where
  content : Content
  is : d ≡ delivery_of.Command p (pos n) content
  asking : Asks b (delivery_of.Command p (pos n) content) (asks.Command n content)

command-asked : (c : Bool) (n : ℕ) (content : Content) (ask : asks.Ask) → ask_command (cond c (Some n) None) content ≡ Some ask
    → ask ≡ asks.Command n content
command-asked true n content ask e = cc
command-asked false n content ask e = cc

ended-command : (b : Building) (E : List Delivery) (p : Text) (number : ℤ) (content : Content) (n : ℕ)
    → ended_by (reply b E (delivery_of.Command p number content)) ≡ Some n → IsCommand b p (delivery_of.Command p number content) n
ended-command b E p number content n e = by (panel_named b p) refl (asked d) refl
  where
    d : Delivery
    d = delivery_of.Command p number content

    by : (found : Option Panel) → panel_named b p ≡ found → (ask : Option asks.Ask) → asked d ≡ ask → IsCommand b p d n
    by None unknown ask is = absurd (none_some n (sym (ap ended_by (reply-unknown b E d tt unknown)) ∙ e))
    by (Some panel) known None is = absurd (none_some n (sym (ap ended_by (reply-bad_number b E d panel tt known is)) ∙ e))
    by (Some panel) known (Some ask) is =
        let asking : Asks b d ask = record { panel = panel; known = known; asks_it = is } in
        let numbered : number ≡ pos n =
        number-ended (verdict_of (taken_by b p E) ask _) _ _ number _ n (sym (ap ended_by (reply-asked b E d ask asking)) ∙ e) in
        let is_ask : ask_command (number_upto LAST_NUMBER (pos n)) content ≡ Some ask =
        sym (ap (λ m. ask_command (number_upto LAST_NUMBER m) content) numbered) ∙ is in
        let command : ask ≡ asks.Command n content = command-asked (nat_le 1 n && nat_le n LAST_NUMBER) n content ask is_ask in
        record {
          content = content;
          is = ap (λ m. delivery_of.Command p m content) numbered;
          asking = record { panel = panel; known = known; asks_it = is_ask ∙ ap Some command };
        }

ended-skip : (b : Building) (E : List Delivery) (p : Text) (upto : ℤ) (n : ℕ)
    → ended_by (reply b E (delivery_of.Skip p upto)) ≡ Some n → ⊥
ended-skip b E p upto n e = by (panel_named b p) refl (number_upto (LAST_NUMBER + 1) upto) refl
  where
    d : Delivery
    d = delivery_of.Skip p upto

    by : (found : Option Panel) → panel_named b p ≡ found → (number : Option ℕ) → number_upto (LAST_NUMBER + 1) upto ≡ number → ⊥
    by None unknown number is = none_some n (sym (ap ended_by (reply-unknown b E d tt unknown)) ∙ e)
    by (Some panel) known None is = none_some n (sym (ap ended_by (reply-bad_number b E d panel tt known (ap ask_skip is))) ∙ e)
    by (Some panel) known (Some u) is =
        let asking : Asks b d (asks.Skip u) = record { panel = panel; known = known; asks_it = ap ask_skip is } in
        skip-ends_none (nat_lt (asks.front (taken_by b p E) + window) u) _ _ _ _ n
        (sym (ap ended_by (reply-asked b E d (asks.Skip u) asking)) ∙ e)

ended-tick : (b : Building) (E : List Delivery) (moment : ℤ) (n : ℕ) → ended_by (reply b E (delivery_of.Tick moment)) ≡ Some n → ⊥
unfolding reply
ended-tick b E moment n e = by (is_moment b moment) (is_later (last_tick_of b E) moment) e
  where
    by : (moments later : Bool)
        → ended_by (cond (not moments) answer_of.BadMoment
        (cond later (answer_of.Ticked (writes_of b (machine b E) (Some moment))) answer_of.Old)) ≡ Some n → ⊥
    by false later is = none_some n is
    by true true is = none_some n is
    by true false is = none_some n is

ended-import : (b : Building) (E : List Delivery) (rows : List CalendarEntry) (n : ℕ)
    → ended_by (reply b E (delivery_of.Import rows)) ≡ Some n → ⊥
unfolding reply
ended-import b E rows n e = by (refused_record b rows) e
  where
    by : (refused : Option ℕ)
        → ended_by (option_map_or answer_of.ImportRefused refused (imported_reply b (machine b E) rows)) ≡ Some n → ⊥
    by None is = none_some n is
    by (Some record_number) is = none_some n is

of-command : (b : Building) (E : List Delivery) (p : Text) (d : Delivery) (n : ℕ) → bytes_eq (panel_of d) p ≡ true
    → ended_by (reply b E d) ≡ Some n → IsCommand b p d n
of-command b E p (delivery_of.Command name number content) n here e =
    subst (λ (q : Text). IsCommand b q (delivery_of.Command name number content) n) (one_name p name here)
    (ended-command b E name number content n e)
of-command b E p (delivery_of.Skip name upto) n here e = absurd (ended-skip b E name upto n e)
of-command b E p (delivery_of.Tick moment) n here e = absurd (ended-tick b E moment n e)
of-command b E p (delivery_of.Import rows) n here e = absurd (ended-import b E rows n e)

-- ---- what it says

WereSent-part : (life : Life) (p : Text) (E ds : List Delivery) → WereSent life p (E ++ ds) → WereSent life p E
WereSent-part life p [] ds sent = tt
WereSent-part life p (d ∷ E) ds sent = (sent.0, WereSent-part life p E ds sent.1)

WereSent-at : (life : Life) (p : Text) (E ds : List Delivery) (d : Delivery) → WereSent life p (E ++ d ∷ ds) → WasSent life p d
WereSent-at life p [] ds d sent = sent.0
WereSent-at life p (x ∷ E) ds d sent = WereSent-at life p E ds d sent.1

key-apart : (t : asks.Taken) (n : ℕ) → asks.is_key t n ≡ true → n ≡ asks.front t → ⊥
key-apart t n key same = false≢true (sym (IsFront-front t).missing ∙ (ap (asks.is_key t) (sym same) ∙ key))

own-content : (life : Life) (n : ℕ) (content : Content) → life.first ≤ n → IsPressed life (pos n) content
    → asks.content_in life.pressed n ≡ Some content
own-content life n content own (inl low) = absurd (omega (arith, own, low))
own-content life n content own (inr is) = is

same_content : (x y : Content) → Some x ≡ Some y → x ≡ y
same_content x y e = cc

module _ (b : Building) (life : Life) (p : Text) (E after : List Delivery) (n : ℕ) (content : Content) where
  abbrev d : Delivery
  d = delivery_of.Command p (pos n) content

  abbrev now : List Delivery
  now = E ++ d ∷ []

  abbrev all : List Delivery
  all = now ++ after

  abbrev t : asks.Taken
  t = taken_by b p E

  abbrev u : asks.Taken
  u = taken_by b p now

  abbrev v : asks.Taken
  v = taken_by b p all

  -- where the reply ends the command, the front is past it, and the reply says what became of it
  Says : Reply → Type 0
  Says given = ended_by given ≡ Some n → (n < asks.front v) × Means b p all life n content given

  record Stands : Type 0 where
    least : 1 ≤ n
    own : life.first ≤ n
    pressed : asks.content_in life.pressed n ≡ Some content
    sent : WereSent life p all
    sent_before : WereSent life p E
    asking : Asks b d (asks.Command n content)

  rises-now : asks.front t ≤ asks.front u
  rises-now = (Grows-by b p E (d ∷ [])).rises

  rises : asks.front u ≤ asks.front v
  rises = (Grows-by b p now after).rises

  -- what stood under a number below the front stands there
  stays-now : n < asks.front t → asks.content_at u n ≡ asks.content_at t n
  stays-now below = (Grows-by b p E (d ∷ [])).below n below

  stays : n < asks.front u → asks.content_at v n ≡ asks.content_at u n
  stays below = (Grows-by b p now after).below n below

  says-done : Stands → (answer : Answer) → n < asks.front u → asks.content_at u n ≡ Some content
      → (machine b now).answers p n ≡ answer → WasDone b p all n content answer
  says-done stands answer below found answered =
      let high = rises in
      record {
        done = done-below b p all n stands.least (omega (arith, below, high)) ∙ (stays below ∙ found);
        answered = answers-stay b now after p n below ∙ answered;
      }

  says-forgotten : Stands → n < asks.front t → (number : ℤ) → Says (answer_of.Forgotten number)
  unfolding Says
  says-forgotten stands below number ends = by (asks.content_at v n) refl
    where
      high : n < asks.front v
      high = let first = rises-now in let more = rises in omega (arith, below, first, more)

      by : (found : Option Content) → asks.content_at v n ≡ found
          → (n < asks.front v) × Means b p all life n content (answer_of.Forgotten number)
      by None e = (
        high,
        inr (missing-given_up b life p all n stands.sent stands.least stands.own high (done-below b p all n stands.least high ∙
            e)),
      )
      by (Some c) e =
          let same : c ≡ content = same_content c content (sym ((Of-by b life p all stands.sent).own n c stands.own e) ∙ stands.pressed) in
          (high, inl (done-below b p all n stands.least high ∙ (e ∙ ap Some same)))

  says-skipped : Stands → n < asks.front t → asks.content_at t n ≡ None → (number : ℤ) → Says (answer_of.Skipped number)
  unfolding Says
  says-skipped stands below none number ends =
      let first = rises-now in
      let more = rises in
      let high : n < asks.front v = omega (arith, below, first, more) in
      let middle : n < asks.front u = omega (arith, below, first) in
      let never : asks.content_in (commands_done b p all) n ≡ None =
      done-below b p all n stands.least high ∙ (stays middle ∙ (stays-now below ∙ none)) in (
        high,
        record {
          never_done = never;
          given_up = missing-given_up b life p all n stands.sent stands.least stands.own high never;
        },
      )

  says-applied : Stands → n ≡ asks.front t → (number : ℤ) → Says (answer_of.Answered number ((machine b now).answers p n))
  unfolding Says
  says-applied stands same number ends =
      let grown = taken-here b E d (asks.Command n content) stands.asking in
      let accepted = subst (λ m. asks.accepts t m ≡ true) (sym same) (accepts-front t) in
      let found : asks.content_at u n ≡ Some content =
      ap (λ (w : asks.Taken). asks.content_at w n) grown ∙ content_at-take_accepted t n content accepted in
      let first = rises-now in
      let more = rises in
      let apart : n ≡ asks.front u → ⊥ = key-apart u n (ap is_some found) in
      let middle : n < asks.front u = omega (arith, same, first, apart) in
      (omega (arith, middle, more), says-done stands ((machine b now).answers p n) middle found refl)

  says-repeat : Stands → n ≤ asks.front t → asks.content_at t n ≡ Some content → (number : ℤ)
      → Says (answer_of.Answered number ((machine b E).answers p n))
  unfolding Says
  says-repeat stands low found number ends =
      let apart : n ≡ asks.front t → ⊥ = key-apart t n (ap is_some found) in
      let below : n < asks.front t = omega (arith, low, apart) in
      let first = rises-now in
      let more = rises in
      let middle : n < asks.front u = omega (arith, below, first) in (
        omega (arith, middle, more),
        says-done stands ((machine b E).answers p n) middle (stays-now below ∙ found) (answers-stay b E (d ∷ []) p n below),
      )

  says-none : (given : Reply) → ended_by given ≡ None → Says given
  unfolding Says
  says-none given none ends = absurd (none_some n (sym none ∙ ends))

  -- the verdict on a number under which nothing stands
  says-missing : Stands → asks.content_at t n ≡ None → (below same near : Bool) → nat_lt n (asks.front t) ≡ below
      → (n == asks.front t) ≡ same
      → Says (reply_on (cond below verdict.Skipped (cond same verdict.Applies (cond near verdict.Parked verdict.TooFar)))
      (asks.front t) (asks.front u) (pos n) ((machine b now).answers p n))
  says-missing stands none true same near low level = says-skipped stands (grind (arith, nat_tests)) none (pos n)
  says-missing stands none false true near low level = says-applied stands (grind (arith, nat_tests)) (pos n)
  says-missing stands none false false true low level = says-none (answer_of.Parked (asks.front t) (pos n)) refl
  says-missing stands none false false false low level = says-none (answer_of.TooFar (asks.front t) (pos n)) refl

  -- and on one under which its content stands
  says-row : Stands → asks.content_at t n ≡ Some content → (past : Bool) → nat_lt (asks.front t) n ≡ past
      → Says (reply_on (verdict.Repeat (cond past state.Parked (state.Answered ((machine b E).answers p n))))
      (asks.front t) (asks.front u) (pos n) ((machine b now).answers p n))
  says-row stands found true e = says-none (answer_of.Parked (asks.front t) (pos n)) refl
  says-row stands found false e = says-repeat stands (grind (arith, nat_tests)) found (pos n)

  says-kept : Stands → (c : Content) → asks.content_at t n ≡ Some c → (same : Bool) → content_eq c content ≡ same
      → Says (reply_on (cond same (verdict.Repeat (cond (nat_lt (asks.front t) n) state.Parked (state.Answered ((machine b E).answers p
      n))))
      verdict.Differs) (asks.front t) (asks.front u) (pos n) ((machine b now).answers p n))
  says-kept stands c found true e =
      let is : c ≡ content = (content_eq-Decides c content).0 e in
      says-row stands (found ∙ ap Some is) (nat_lt (asks.front t) n) refl
  says-kept stands c found false e =
      let is : c ≡ content =
      same_content c content (sym ((Of-by b life p E stands.sent_before).own n c stands.own found) ∙ stands.pressed) in
      absurd (false≢true (sym e ∙ (content_eq-Decides c content).1 is))

  says-found : Stands → (old : Bool) → nat_lt n (asks.front t - remembered) ≡ old → (found : Option Content) → asks.content_at t n ≡ found
      → Says (reply_on (cond old verdict.Forgotten
      (verdict_by (option_map (row_of (asks.front t) n ((machine b E).answers p n)) (cond old None found)) t n content))
      (asks.front t) (asks.front u) (pos n) ((machine b now).answers p n))
  says-found stands true e found is = says-forgotten stands (grind (arith, nat_tests)) (pos n)
  says-found stands false e None is =
      says-missing stands is (nat_lt n (asks.front t)) (n == asks.front t) (nat_lt n (asks.front t + window)) refl refl
  says-found stands false e (Some c) is = says-kept stands c is (content_eq c content) refl

  reply-says : Stands → Says (reply b E d)
  unfolding tables
  reply-says stands =
      subst Says (sym (reply-asked b E d (asks.Command n content) stands.asking))
      (says-found stands (nat_lt n (asks.front t - remembered)) refl (asks.content_at t n) refl)

  reported : Stands → (given : Reply) → given ≡ reply b E d → ended_by given ≡ Some n → IsReported b life p all n given
  unfolding Says
  reported stands given is ends =
      let says = subst Says (sym is) (reply-says stands) in
      let both = says ends in
      record { content = content; pressed = stands.pressed; past = both.0; means = both.1 }

reported-by : (b : Building) (life : Life) (p : Text) (E after : List Delivery) (n : ℕ) (content : Content) (given : Reply)
    → let d = delivery_of.Command p (pos n) content in WereSent life p (E ++ d ∷ after) → given ≡ reply b E d
    → Asks b d (asks.Command n content)
    → ended_by given ≡ Some n → 1 ≤ n → life.first ≤ n → IsReported b life p (E ++ d ∷ after) n given
reported-by b life p E after n content given sent is asking ends least own =
    let d = delivery_of.Command p (pos n) content in
    let joined : (E ++ d ∷ []) ++ after ≡ E ++ d ∷ after = append_assoc E (d ∷ []) after in
    let was : WasSent life p d = WereSent-at life p E after d sent in
    subst (λ (ds : List Delivery). IsReported b life p ds n given) joined
    (reported b life p E after n content (record {
      least = least;
      own = own;
      pressed = own-content life n content own (was (bytes_eq-same p));
      sent = subst (WereSent life p) (sym joined) sent;
      sent_before = WereSent-part life p E (d ∷ after) sent;
      asking = asking;
    }) given is ends)

pub replies-are-true : RepliesAreTrue
replies-are-true b life p ds n given sent came ends least own =
    let command = of-command b came.before p came.delivery n came.of_panel (sym (ap ended_by came.replied) ∙ ends) in
    let d = delivery_of.Command p (pos n) command.content in
    let in_list : ds ≡ came.before ++ d ∷ came.after =
    came.in_list ∙ ap (λ (x : Delivery). came.before ++ x ∷ came.after) command.is in
    subst (λ (all : List Delivery). IsReported b life p all n given) (sym in_list)
    (reported-by b life p came.before came.after n command.content given (subst (WereSent life p) in_list sent)
    (came.replied ∙ ap (reply b came.before) command.is) command.asking ends least own)
