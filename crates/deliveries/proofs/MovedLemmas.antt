-- What a plan does is what one delivery more does.
use Rattle.std.proofs.Common.{◌≡◌, ℕ, ◌+◌, ◌-◌, ◌<◌, ◌==◌, ◌++◌, true, false, List, [], ◌∷◌, Option, Some, None, is_some}
use Rattle.std.proofs.Common.{◌⊎◌, refl, sym, ap, ◌∙◌, subst, arith, inl, inr, cond, nat_lt, ℤ}
use Rattle.std.specs.List.{list_any}
use Rattle.std.specs.Str.{bytes_eq}
use Rattle.std.proofs.lemmas.Bool.Decides.{nat_tests}
use Rattle.std.proofs.lemmas.Bool.{cases_Bool, false≢true}
use Rattle.std.proofs.lemmas.Slice.Eq.{bytes_eq-Decides}
use Rattle.points.specs.declared.answer.Answer.{Answer}
use Rattle.points.specs.declared.command_row.CommandRow.{CommandRow}
use Rattle.points.specs.declared.command_row.CommandState.TheVariants.{Parked, Answered}
use Rattle.points.specs.declared.content.Content.{Content}
use Rattle.points.specs.PriorityArray.{Places}
use Rattle.points.specs.Run.{Rows}
use Rattle.store.specs.Change.{with_each, with_row, without_rows}
use Rattle.store.specs.Tables.{Tables}
use Rattle.points.specs.Texts.{Text}
use Rattle.window.specs.declared.numbered_content.NumberedContent.{NumberedContent}
use Rattle.window.specs.declared.plan.Plan.{Plan}
use Rattle.window.specs.declared.verdict.Verdict.{Verdict}
use Rattle.window.specs.declared.verdict.Verdict.TheVariants as verdict
use Rattle.window.specs.Applied.{applied}
use Rattle.window.specs.Plan.{Plans, parked_by}
use Rattle.window.specs.Taken as asks
use Rattle.window.specs.Verdict.{verdict_of}
use Rattle.window.specs.View.{row_asked}
use Rattle.window.specs.Window.{remembered, window}
use Rattle.window.proofs.AppliedLemmas.{content_in-applied, content_at-take_accepted}
use Rattle.window.proofs.FrontLemmas.{IsFront-front, front-take}
use Rattle.window.proofs.PlanLemmas.{accepts-front}
use Rattle.window.proofs.VerdictLemmas.{at_front-applies}
use Rattle.building.specs.Building.{Building}
use Rattle.deliveries.specs.declared.delivery.Delivery.{Delivery}
use Rattle.deliveries.specs.Accepted.{panel_of, taken_by}
use Rattle.deliveries.specs.Events.{events_of, machine}
use Rattle.deliveries.specs.Machine.{Machine, Command, run, step}
use Rattle.deliveries.specs.Moved.{answered_rows, first_answer, moved, parked_rows, places_after_each}
use Rattle.deliveries.specs.Reply.{number_asked, number_in_reply, reply, reply_on}
use Rattle.deliveries.specs.Tables.{row_at, tables}
use Rattle.deliveries.proofs.MachineLemmas.{Rise, answers-apart, bytes_eq-same, content_in-below, imported-run, last_tick-run, places-run, shown-run}
use Rattle.deliveries.proofs.RowLemmas.{Rise-applied, rows-asked, rows-of_others}
use Rattle.deliveries.proofs.StepLemmas.{Asks, machine-asked, reply-asked, taken-here, taken-apart}

-- the rows after a plan, by its parts
rows-moved : Building → (Text → Places) → Text → ℕ → List NumberedContent → Option NumberedContent → (Text → Rows) → Text → Rows
rows-moved b places p next entries park row =
    without_rows (record { panel = p; number = next - remembered })
    (with_each with_row (answered_rows b places p entries ++ parked_rows p park) row)

tables-moved-at : Building → (Text → Places) → Text → ℕ → List NumberedContent → Option NumberedContent → Tables → Tables
tables-moved-at b places p next entries park t = record {
  places = places_after_each b places p entries;
  next = λ q. cond (bytes_eq p q) next (t.next q);
  row = rows-moved b places p next entries park t.row;
  shown = t.shown;
  imported = t.imported;
  last_tick = t.last_tick;
}

moved-is : (b : Building) (p : Text) (plan : Plan) (t : Tables)
    → moved b p plan t ≡ tables-moved-at b t.places p plan.next plan.apply plan.park t
unfolding moved tables-moved-at rows-moved
moved-is b p plan t = refl

module _ (b : Building) (E : List Delivery) (d : Delivery) (ask : asks.Ask) (asking : Asks b d ask) where
  abbrev panel : Text
  panel = panel_of d

  abbrev before : asks.Taken
  before = taken_by b panel E

  abbrev after : asks.Taken
  after = asks.take before ask

  next-asked : (q : Text) → asks.front (taken_by b q (E ++ d ∷ []))
      ≡ cond (bytes_eq panel q) (asks.front after) (asks.front (taken_by b q E))
  next-asked q = elim (cases_Bool (bytes_eq panel q)) [
    | inl same ↦ rw same (ap (λ p. asks.front (taken_by b p (E ++ d ∷ []))) (sym ((bytes_eq-Decides panel q).0 same))
        ∙ ap asks.front (taken-here b E d ask asking))
    | inr apart ↦ rw apart (ap asks.front (taken-apart b E d q apart))
  ]

  abbrev now : Machine
  now = run b (machine b E) (events_of panel (applied before after))

  rows-of : (q : Text) (number : ℕ) → row_at (taken_by b q (E ++ d ∷ [])) number (now.answers q number)
      ≡ rows-moved b (machine b E).places panel (asks.front after) (applied before after) (parked_by before ask) (tables b E).row q number
  unfolding tables rows-moved
  rows-of q number = elim (cases_Bool (bytes_eq panel q)) [
    | inl same ↦
        subst (λ p. row_at (taken_by b p (E ++ d ∷ [])) number (now.answers p number)
        ≡ rows-moved b (machine b E).places panel (asks.front after) (applied before after) (parked_by before ask) (tables b E).row
        p number)
        ((bytes_eq-Decides panel q).0 same)
        (ap (λ t. row_at t number (now.answers panel number)) (taken-here b E d ask asking)
        ∙ sym (rows-asked b (machine b E) panel before ask (tables b E).row number refl))
    | inr apart ↦ ap (λ t. row_at t number (now.answers q number)) (taken-apart b E d q apart)
        ∙ sym (rows-of_others b (machine b E) panel q before (taken_by b q E) ask (tables b E).row number apart refl)
  ]

  tables-asked : tables b (E ++ d ∷ [])
      ≡ tables-moved-at b (machine b E).places panel (asks.front after) (applied before after) (parked_by before ask) (tables b E)
  unfolding tables tables-moved-at
  tables-asked =
      let machines = machine-asked b E d ask asking in
      λ i. record {
        places = (ap (λ (m : Machine). m.places) machines ∙ places-run b (machine b E) panel (applied before after)) i;
        next = λ q. next-asked q i;
        row =
            λ q number. (ap (λ (m : Machine). row_at (taken_by b q (E ++ d ∷ [])) number (m.answers q number)) machines
            ∙ rows-of q number) i;
        shown = (ap (λ (m : Machine). m.shown) machines ∙ shown-run b (machine b E) panel (applied before after)) i;
        imported = λ calendar text. list_any (bytes_eq text)
            ((ap (λ (m : Machine). m.imported) machines ∙ imported-run b (machine b E) panel (applied before after)) i calendar);
        last_tick = (ap (λ (m : Machine). m.last_tick) machines ∙ last_tick-run b (machine b E) panel (applied before after)) i;
      }

  places-tables : (tables b E).places ≡ (machine b E).places
  unfolding tables
  places-tables = refl

  -- the tables after a plan
  pub tables-moved : (row : Option CommandRow) (plan : Plan) → Plans before ask row plan
      → tables b (E ++ d ∷ []) ≡ moved b panel plan (tables b E)
  tables-moved row plan plans =
      tables-asked ∙ ((λ i. tables-moved-at b (sym places-tables i) panel (sym plans.next i) (sym plans.apply i) (sym plans.park i)
      (tables b E))
      ∙ sym (moved-is b panel plan (tables b E)))

-- the reply

-- only the verdict `Applies` is reported with an answer
reply_on-other : (v : Verdict) (next later : ℕ) (z : ℤ) (answer given : Answer) → (v ≡ verdict.Applies → ⊥)
    → reply_on v next later z answer ≡ reply_on v next later z given
reply_on-other verdict.Applies next later z answer given other = absurd (other refl)
reply_on-other verdict.Parked next later z answer given other = refl
reply_on-other (verdict.Repeat Parked) next later z answer given other = refl
reply_on-other (verdict.Repeat (Answered kept)) next later z answer given other = refl
reply_on-other verdict.Skipped next later z answer given other = refl
reply_on-other verdict.Differs next later z answer given other = refl
reply_on-other verdict.TooFar next later z answer given other = refl
reply_on-other verdict.SkipDone next later z answer given other = refl
reply_on-other verdict.Forgotten next later z answer given other = refl

-- the first of contents by rising number has its answer
first-answered : (b : Building) (m : Machine) (p : Text) (number : ℕ) (content : Content) (entries : List NumberedContent)
    → Rise number entries
    → asks.content_in entries number ≡ Some content
    → first_answer b m.places p entries ≡ Some ((run b m (events_of p entries)).answers p number)
first-answered b m p number content [] rise found = absurd cc
first-answered b m p number content (entry ∷ entries) rise found =
    let next = step b m (Command p entry.number entry.content) in
    elim (cases_Bool (entry.number == number)) [
      | inl same ↦
          let at : entry.number ≡ number = grind (arith, nat_tests) in
          let none = content_in-below (entry.number + 1) number entries rise.1 (omega (arith, at)) in
          ap Some (sym (answers-apart b next p number entries none ∙ rw (bytes_eq-same p, same) refl))
      | inr apart ↦
          let least = rise.0 in
          let past : number < entry.number + 1 = grind (arith, nat_tests) in
          let none = content_in-below (entry.number + 1) number entries rise.1 past in
          let missing : Some content ≡ None = sym found ∙ rw apart none in
          absurd cc
    ]

-- the command at the front is the first that is acted on
front-answered : (b : Building) (m : Machine) (p : Text) (t : asks.Taken) (number : ℕ) (content : Content) → number ≡ asks.front t
    → let entries = applied t (asks.take t (asks.Command number content)) in
    first_answer b m.places p entries ≡ Some ((run b m (events_of p entries)).answers p number)
front-answered b m p t number content same =
    let ask = asks.Command number content in
    let grown = asks.take t ask in
    let accepted : asks.accepts t number ≡ true = subst (λ n. asks.accepts t n ≡ true) (sym same) (accepts-front t) in
    let here = content_at-take_accepted t number content accepted in
    let missing = (IsFront-front grown).missing in
    let rises = front-take t ask in
    let moves : asks.front grown ≡ number → ⊥ = λ e. false≢true (sym missing ∙ (ap (asks.is_key grown) e ∙ ap is_some here)) in
    let below : number < asks.front grown = omega (arith, same, rises, moves) in
    let rise : Rise number (applied t grown) = subst (λ n. Rise n (applied t grown)) (sym same) (Rise-applied t grown) in
    first-answered b m p number content (applied t grown) rise (content_in-applied t grown number (omega (arith, same)) below ∙ here)

not_applies-skip : (t : asks.Taken) (upto : ℕ) (row : Option CommandRow) → verdict_of t (asks.Skip upto) row ≡ verdict.Applies → ⊥
not_applies-skip t upto row = elim (nat_lt (asks.front t + window) upto) as
    (λ far. cond far verdict.TooFar verdict.SkipDone ≡ verdict.Applies → ⊥) [ true ↦ (λ e. cc) | false ↦ (λ e. cc) ]

pub is_applies : (v : Verdict) → (v ≡ verdict.Applies) ⊎ (v ≡ verdict.Applies → ⊥)
is_applies verdict.Applies = inl refl
is_applies verdict.Parked = inr (λ e. cc)
is_applies (verdict.Repeat state) = inr (λ e. cc)
is_applies verdict.Skipped = inr (λ e. cc)
is_applies verdict.Differs = inr (λ e. cc)
is_applies verdict.TooFar = inr (λ e. cc)
is_applies verdict.SkipDone = inr (λ e. cc)
is_applies verdict.Forgotten = inr (λ e. cc)

-- where a verdict applies a command, the answer of the machine to it is that of the first that is acted on
applies-answered : (b : Building) (m : Machine) (p : Text) (t : asks.Taken) (ask : asks.Ask) (row : Option CommandRow)
    → verdict_of t ask row ≡ verdict.Applies
    → let entries = applied t (asks.take t ask) in
    first_answer b m.places p entries ≡ Some ((run b m (events_of p entries)).answers p (number_asked ask))
applies-answered b m p t (asks.Skip upto) row applies = absurd (not_applies-skip t upto row applies)
applies-answered b m p t (asks.Command number content) row applies =
    front-answered b m p t number content (at_front-applies t number content row applies)

-- a plan that is reported as it is carried out: on a verdict that applies with the answer of its first command
module _ (b : Building) (E : List Delivery) (d : Delivery) (ask : asks.Ask) (plan : Plan) (asking : Asks b d ask)
    (plans : Plans (taken_by b (panel_of d) E) ask (row_asked ((tables b E).row (panel_of d)) ask) plan) where
  abbrev who : Text
  who = panel_of d

  abbrev held : asks.Taken
  held = taken_by b who E

  abbrev given : Answer
  given = (run b (machine b E) (events_of who (applied held (asks.take held ask)))).answers who (number_asked ask)

  -- the answer of its first command
  applies-given : plan.verdict ≡ verdict.Applies → first_answer b (tables b E).places who plan.apply ≡ Some given
  applies-given applies =
      (λ i. first_answer b (places-tables b E d ask asking i) who (plans.apply i))
      ∙ applies-answered b (machine b E) who held ask (row_asked ((tables b E).row who) ask) (sym plans.verdict ∙ applies)

  -- the reply to its delivery
  reply-given : reply b E d ≡ reply_on plan.verdict (asks.front held) plan.next (number_in_reply d) given
  reply-given =
      reply-asked b E d ask asking
      ∙ (λ i. reply_on (sym plans.verdict i) (asks.front held) (asks.front (taken-here b E d ask asking i)) (number_in_reply d)
      ((machine-asked b E d ask asking i).answers who (number_asked ask)))
      ∙ (λ i. reply_on plan.verdict (asks.front held) (sym plans.next i) (number_in_reply d) given)

  -- a plan that applies has a command
  pub has_answer : plan.verdict ≡ verdict.Applies → first_answer b (tables b E).places who plan.apply ≡ None → ⊥
  has_answer applies none = some_none (sym (applies-given applies) ∙ none)
    where
      some_none : Some given ≡ None → ⊥
      some_none e = cc

  -- the reply on another verdict has no answer
  pub reply-other : (answer : Answer) → (plan.verdict ≡ verdict.Applies → ⊥)
      → reply b E d ≡ reply_on plan.verdict (asks.front held) plan.next (number_in_reply d) answer
  reply-other answer other = reply-given ∙ reply_on-other plan.verdict (asks.front held) plan.next (number_in_reply d) given answer other

  -- the reply, by the answer of the first command
  pub reply-answered : (answer : Answer) → first_answer b (tables b E).places who plan.apply ≡ Some answer
      → reply b E d ≡ reply_on plan.verdict (asks.front held) plan.next (number_in_reply d) answer
  reply-answered answer first = elim (is_applies plan.verdict) [
    | inl applies ↦
        reply-given
        ∙ ap (reply_on plan.verdict (asks.front held) plan.next (number_in_reply d)) (is_same (sym (applies-given applies) ∙ first))
    | inr other ↦ reply-other answer other
  ]
    where
      is_same : Some given ≡ Some answer → given ≡ answer
      is_same e = cc
