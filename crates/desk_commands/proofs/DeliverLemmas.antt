-- One delivery, from its plan.
use Rattle.std.proofs.Common.{◌≡◌, ◌⊎◌, ℕ, ◌+◌, ◌≤◌, ◌++◌, true, false, List, [], ◌∷◌, Option, Some, None, is_some, Result, Ok, Err, IfSome}
use Rattle.std.proofs.Common.{refl, sym, ap, ◌∙◌, subst, arith, inl, inr, nat_le, ℤ}
use Rattle.std.specs.List.{list_all}
use Rattle.std.specs.Option.{option_map_or}
use Rattle.std.proofs.lemmas.Bool.{false≢true}
use Rattle.std.proofs.lemmas.Bool.Decides.{nat_tests}
use Rattle.std.proofs.lemmas.List.Elements.{All-weaker}
use Rattle.std.proofs.lemmas.List.Sums.{list_all-from_AllPass}
use Rattle.points.specs.declared.answer.Answer.{Answer}
use Rattle.points.specs.declared.answer.Answer.TheVariants.{Refused}
use Rattle.points.specs.declared.panel.Panel.{Panel}
use Rattle.points.specs.declared.rule.Rule.TheVariants.{NoSuchPoint}
use Rattle.store.specs.declared.fault.StoreFault.{StoreFault}
use Rattle.store.specs.declared.fault.StoreFault.TheVariants.{NoMemory, Failed, Shut, BadRow}
use Rattle.store.specs.Change.{IsNumber}
use Rattle.store.specs.Standing.{Content, IsOpen, Reads, Standing, sound}
use Rattle.store.proofs.ReadLemmas.{stays_open}
use Rattle.window.specs.declared.numbered_content.NumberedContent.{NumberedContent}
use Rattle.window.specs.declared.plan.Plan.{Plan}
use Rattle.points.specs.declared.numbered_row.TheConstants.{LAST_NUMBER}
use Rattle.window.specs.Applied.{applied}
use Rattle.window.specs.Plan.{Plans, parked_by}
use Rattle.window.specs.Taken as asks
use Rattle.window.specs.View.{row_asked}
use Rattle.window.proofs.PlanLemmas.{applied-same_front}
use Rattle.building.specs.Building.{Building}
use Rattle.deliveries.specs.declared.delivery.Delivery.{Delivery}
use Rattle.deliveries.specs.declared.reply.Reply.{Reply}
use Rattle.deliveries.specs.declared.reply.Reply.TheVariants.{NoPanel}
use Rattle.deliveries.specs.Accepted.{panel_named, panel_of, taken_by}
use Rattle.deliveries.specs.Moved.{first_answer, moved}
use Rattle.deliveries.specs.Reply.{number_in_reply, reply, reply_on}
use Rattle.deliveries.specs.Tables.{tables}
use Rattle.deliveries.proofs.MovedLemmas.{has_answer, is_applies, reply-answered, reply-other, tables-moved}
use Rattle.deliveries.proofs.RangeLemmas.{applied-in_range, front_greatest, front_least, parked-in_range}
use Rattle.deliveries.proofs.DeliveredLemmas.{Delivers-read_only}
use Rattle.deliveries.proofs.StepLemmas.{Asks, IsSent, reply-unknown, tables-unknown, tables-unmoved, taken-here}
use Rattle.desk_commands.specs.Carried.{Becomes, Carries, Replies, is_in_range, is_number}
use Rattle.deliveries.specs.Delivered.{Delivers, Holds}
use Rattle.desk_commands.specs.Planned.{IsPlanned}

abbrev reply_in : Reply → Result Reply StoreFault → Reply
reply_in other (Ok reply) = reply
reply_in other (Err fault) = other

module _ (b : Building) (E : List Delivery) (d : Delivery) (ask : asks.Ask) (panel : Panel) (next : ℕ) (number : ℤ) (plan : Plan)
    (known : panel_named b panel.name ≡ Some panel) (is : IsPlanned b E d ask panel.name next number plan) where
  asking : Asks b d ask
  asking = record { panel = panel; known = ap (panel_named b) is.of_panel ∙ known; asks_it = is.asks_it }

  abbrev before : asks.Taken
  before = taken_by b (panel_of d) E

  plans : Plans before ask (row_asked ((tables b E).row (panel_of d)) ask) plan
  plans = subst (λ p. Plans (taken_by b p E) ask (row_asked ((tables b E).row p) ask) plan) (sym is.of_panel) is.plans

  next-front : next ≡ asks.front before
  next-front = is.next_is ∙ ap (λ p. asks.front (taken_by b p E)) (sym is.of_panel)

  reply-by : (given : Answer) → reply b E d ≡ reply_on plan.verdict (asks.front before) plan.next (number_in_reply d) given
      → reply_on plan.verdict next plan.next number given ≡ reply b E d
  reply-by given same = (λ i. reply_on plan.verdict (next-front i) plan.next (sym is.number_is i) given) ∙ sym same

  -- the reply on a plan, with the answer of its first command
  reply-planned : (answer : Option Answer) (result : Result Reply StoreFault)
      → answer ≡ first_answer b (tables b E).places (panel_of d) plan.apply
      → Replies plan.verdict next plan.next number answer result
      → result ≡ Ok (reply b E d)
  reply-planned (Some given) result first replies =
      replies.answered ∙ ap Ok (reply-by given (reply-answered b E d ask plan asking plans given (sym first)))
  reply-planned None result first replies = elim (is_applies plan.verdict) [
    | inl applies ↦ absurd (has_answer b E d ask plan asking plans applies (sym first))
    | inr other ↦
        let any = Refused NoSuchPoint in
        replies.other any other ∙ ap Ok (reply-by any (reply-other b E d ask plan asking plans any other))
  ]

  -- a plan that changes nothing
  pub Delivers-unchanged : (result : Result Reply StoreFault) (old new : Standing)
      → Replies plan.verdict next plan.next number None result → plan.next ≡ next → plan.park ≡ None → Holds b E old
      → new.content ≡ old.content
      → Delivers b E d result new
  Delivers-unchanged result old new replies stays none held same =
      let still : plan.next ≡ asks.front before = stays ∙ next-front in
      let nothing : plan.apply ≡ [] = plans.apply ∙ applied-same_front before (asks.take before ask) (sym plans.next ∙ still) in
      let first = sym (ap (first_answer b (tables b E).places (panel_of d)) nothing) in
      subst (λ r. Delivers b E d r new) (sym (reply-planned None result first replies)) (
        refl,
        same ∙ (held ∙ sym (ap sound (tables-unmoved b E d ask _ plan asking plans still none))),
      )

  -- a plan's numbers lie in their ranges
  pub in_range : is_in_range plan ≡ true
  in_range =
      let after = taken_by b (panel_of d) (E ++ d ∷ []) in
      let grown = taken-here b E d ask asking in
      let next_is : plan.next ≡ asks.front after = plans.next ∙ sym (ap asks.front grown) in
      let least = front_least b (panel_of d) (E ++ d ∷ []) in
      let greatest = front_greatest b (panel_of d) (E ++ d ∷ []) in
      let apply_is : plan.apply ≡ applied before after = plans.apply ∙ ap (applied before) (sym grown) in
      let numbers : list_all (λ (entry : NumberedContent). is_number entry.number) plan.apply ≡ true =
      ap (list_all (λ (entry : NumberedContent). is_number entry.number)) apply_is
      ∙ list_all-from_AllPass (λ (entry : NumberedContent). is_number entry.number) (applied before after)
      (All-weaker (λ (entry : NumberedContent). IsNumber entry.number) (λ (entry : NumberedContent). is_number entry.number ≡ true)
      (λ entry. tested entry.number) (applied before after) (applied-in_range b (panel_of d) E (E ++ d ∷ []))) in
      let first : nat_le 1 plan.next ≡ true = at_least plan.next (asks.front after) next_is least in
      let last : nat_le plan.next (LAST_NUMBER + 1) ≡ true = at_most plan.next (asks.front after) next_is greatest in
      rw (first, last, numbers, plans.park) (park-tested (parked_by before ask) (parked-in_range b (panel_of d) E d ask is.asks_it))
    where
      tested : (n : ℕ) → IsNumber n → is_number n ≡ true
      tested n is = let least = is.least in let greatest = is.greatest in grind (arith, nat_tests)

      at_least : (n front : ℕ) → n ≡ front → 1 ≤ front → nat_le 1 n ≡ true
      at_least n front same least = grind (arith, nat_tests)

      at_most : (n front : ℕ) → n ≡ front → front ≤ LAST_NUMBER + 1 → nat_le n (LAST_NUMBER + 1) ≡ true
      at_most n front same greatest = grind (arith, nat_tests)

      park-tested : (park : Option NumberedContent) → IfSome park (λ (entry : NumberedContent). IsNumber entry.number)
          → option_map_or (λ (entry : NumberedContent). is_number entry.number) park true ≡ true
      park-tested None within = refl
      park-tested (Some entry) within = tested entry.number within

  becomes-moved : (old content : Content) → old ≡ sound (tables b E) → Becomes (moved b panel.name plan old.tables) old content
      → content ≡ sound (tables b (E ++ d ∷ []))
  becomes-moved old content held becomes =
      let moves : moved b panel.name plan old.tables ≡ tables b (E ++ d ∷ []) =
      (λ i. moved b (sym is.of_panel i) plan (held i).tables) ∙ sym (tables-moved b E d ask asking _ plan plans) in
      let all_sound = becomes.is_sound (ap (λ (c : Content). c.is_sound) held) in
      λ i. record { tables = (becomes.tables_are ∙ moves) i; is_sound = all_sound i }

  -- a plan that is carried out
  Delivers-carried : (replied : Reply) (old new : Standing) → Carries b panel.name plan next number (Ok replied) old new → new.is_honest
      → Holds b E old
      → Delivers b E d (Ok replied) new
  Delivers-carried replied old new carries honest held =
      let first : first_answer b old.content.tables.places panel.name plan.apply
      ≡ first_answer b (tables b E).places (panel_of d) plan.apply =
      (λ i. first_answer b (held i).tables.places (sym is.of_panel i) plan.apply) in (
        ap (reply_in replied) (reply-planned _ (Ok replied) first (carries.reply honest)),
        becomes-moved old.content new.content held (carries.made honest refl),
      )

  -- or is not
  Delivers-failed : (fault : StoreFault) (old new : Standing) → IsOpen old → Carries b panel.name plan next number (Err fault) old new
      → new.is_honest → Holds b E old
      → Delivers b E d (Err fault) new
  Delivers-failed NoMemory old new is_open carries honest held =
      let going = carries.goes.goes_on (λ e. cc) ∙ stays_open old old is_open.goes in
      carries.unchanged honest going NoMemory refl ∙ held
  Delivers-failed Failed old new is_open carries honest held = λ content left.
      either content (carries.left honest (stays_open old old is_open.goes) content left)
    where
      either : (content : Content) → (content ≡ old.content) ⊎ Becomes (moved b panel.name plan old.content.tables) old.content content
          → (content ≡ sound (tables b E)) ⊎ (content ≡ sound (tables b (E ++ d ∷ [])))
      either content (inl same) = inl (same ∙ held)
      either content (inr becomes) = inr (becomes-moved old.content content held becomes)
  Delivers-failed Shut old new is_open carries honest held =
      absurd (false≢true (sym (stays_open old old is_open.goes) ∙ carries.goes.shut.0 refl))
  Delivers-failed BadRow old new is_open carries honest held =
      elim (carries.bad_row honest refl) [
        | inl unsound ↦ absurd (false≢true (sym unsound ∙ ap (λ (c : Content). c.is_sound) held))
        | inr lacks ↦ absurd (has_answer b E d ask plan asking plans lacks.verdict
            (ap (first_answer b (tables b E).places (panel_of d)) lacks.apply))
      ]

  -- so is a plan, whatever comes of it
  pub Delivers-made : (result : Result Reply StoreFault) (old new : Standing) → IsOpen old
      → Carries b panel.name plan next number result old new → new.is_honest → Holds b E old
      → Delivers b E d result new
  Delivers-made (Ok replied) old new is_open carries honest held = Delivers-carried replied old new carries honest held
  Delivers-made (Err fault) old new is_open carries honest held = Delivers-failed fault old new is_open carries honest held

pub none_of : {A : Type 0} (found : Option A) → is_some found ≡ false → found ≡ None
none_of None none = refl
none_of (Some x) none = absurd (false≢true (sym none))

-- the delivery of a panel that the building lacks
pub Delivers-unknown : (b : Building) (E : List Delivery) (d : Delivery) (old new : Standing) → IsSent d
    → panel_named b (panel_of d) ≡ None → Reads None old new → new.is_honest → Holds b E old
    → Delivers b E d (Ok NoPanel) new
Delivers-unknown b E d old new sent unknown reads honest held =
    Delivers-read_only b E d NoPanel old new reads honest held (sym (reply-unknown b E d sent unknown)) (tables-unknown b E d sent unknown)
