-- A plan's change makes the tables of the plan.
use Rattle.std.proofs.Common.{◌≡◌, ◌⊎◌, ◌++◌, ◌-◌, ◌&&◌, nat_lt, if◌then◌else◌, arith, zero, suc, List, ℕ, ℤ, [], ◌∷◌, Option, Some, None, Result, Ok, Err, IfOk, refl, sym, subst, ap, ◌∙◌, inl, inr, rules}
use Rattle.std.specs.Result.{result_err}
use Rattle.points.specs.declared.answer.Answer.{Answer}
use Rattle.points.specs.declared.answer.Answer.TheVariants.{Refused}
use Rattle.points.specs.declared.rule.Rule.TheVariants.{NoSuchPoint}
use Rattle.points.specs.PriorityArray.{Places}
use Rattle.store.specs.declared.change.Change.{Change}
use Rattle.store.specs.declared.fault.StoreFault.{StoreFault}
use Rattle.store.specs.declared.fault.StoreFault.TheVariants.{BadRow, Failed, Shut}
use Rattle.store.specs.Change.{with_change, with_each, with_imported, with_last_tick, with_next, with_place, with_row, with_shown, without_rows}
use Rattle.store.specs.Standing.{Commits, Content, Goes, IsOpen, Makes, Reads, Standing}
use Rattle.store.specs.Tables.{Tables}
use Rattle.points.specs.Texts.{Text}
use Rattle.points.specs.Run.{Rows}
use Rattle.points.specs.declared.command_row.CommandRow.{CommandRow}
use Rattle.std.specs.Str.{bytes_eq}
use Rattle.std.proofs.lemmas.Bool.Decides.{nat_tests}
use Rattle.window.specs.Window.{remembered}
use Rattle.store.proofs.ReadLemmas.{Commits-then, Goes-reported, changes_once_reported, changes_once_then}
use Rattle.window.specs.declared.numbered_content.NumberedContent.{NumberedContent}
use Rattle.window.specs.declared.plan.Plan.{Plan}
use Rattle.window.specs.declared.verdict.Verdict.{Verdict}
use Rattle.window.specs.declared.verdict.Verdict.TheVariants.{Applies}
use Rattle.building.specs.Building.{Building}
use Rattle.deliveries.specs.declared.reply.Reply.{Reply}
use Rattle.deliveries.specs.Reply.{reply_on}
use Rattle.deliveries.proofs.MovedLemmas.{is_applies}
use Rattle.deliveries.proofs.ImportedLemmas.{imported_read, imported_then}
use Rattle.deliveries.specs.Moved.{answered_rows, first_answer, moved, parked_rows, places_after_each, rows_of}
use Rattle.desk_commands.specs.declared.acting.Acted.{Acted}
use Rattle.desk_commands.specs.Carried.{Becomes, Carries, IsChangeOf, MakesOnce, Replies, dropped_below, first_answer_in}
use Rattle.desk_commands.specs.Written.{written}

-- below 0 no row stands
none_below-0 : (p q : Text) (number : ℕ) (row : Option CommandRow)
    → row ≡ (if bytes_eq p q && nat_lt number 0 then None else row)
none_below-0 p q number row = grind (arith, nat_tests)

dropped-without : (p : Text) (number : ℕ) (rows : Text → Rows)
    → with_each without_rows (dropped_below p number) rows ≡ without_rows (record { panel = p; number = number }) rows
dropped-without p zero rows = λ i q number. none_below-0 p q number (rows q number) i
dropped-without p (suc number) rows = refl

pub change-moved : (b : Building) (p : Text) (plan : Plan) (acted : Acted) (change : Change) (held : Tables)
    → IsChangeOf p plan acted change
    → acted.rows.items ≡ answered_rows b held.places p plan.apply
    → written acted.places.items held.places ≡ places_after_each b held.places p plan.apply
    → with_change change held ≡ moved b p plan held
unfolding with_change moved
change-moved b p plan acted change held is rows places =
    let put = is.rows ∙ ap (λ items. items ++ parked_rows p plan.park) rows in
    let dropped : with_each without_rows change.dropped.items (with_each with_row change.rows.items held.row)
    ≡ without_rows (record { panel = p; number = plan.next - remembered }) (with_each with_row (rows_of b held.places p plan) held.row) =
    (λ i. with_each without_rows (is.dropped i) (with_each with_row (put i) held.row))
    ∙ dropped-without p (plan.next - remembered) (with_each with_row (rows_of b held.places p plan) held.row) in
    λ i. record {
      places = (ap (λ items. with_each with_place items held.places) is.places ∙ places) i;
      next = with_each with_next (is.nexts i) held.next;
      row = dropped i;
      shown = with_each with_shown (is.shown i) held.shown;
      imported = with_each with_imported (is.imported i) held.imported;
      last_tick = with_last_tick (is.last_tick i) held.last_tick;
    }

-- the answer of the first command
pub first_answer_in-answered : (b : Building) (held : Text → Places) (p : Text) (entries : List NumberedContent)
    → first_answer_in (answered_rows b held p entries) ≡ first_answer b held p entries
first_answer_in-answered b held p [] = refl
first_answer_in-answered b held p (entry ∷ entries) = refl

-- only a verdict that applies, with no answer, has no reply: it is S5
pub reply-lacking : (v : Verdict) (next later : ℕ) (z : ℤ) (answer : Option Answer) (fault : StoreFault)
    → Replies v next later z answer (Err fault)
    → (fault ≡ BadRow) × ((v ≡ Applies) × (answer ≡ None))
reply-lacking v next later z (Some given) fault replies = let no : Err fault ≡ Ok (reply_on v next later z given) = replies.answered in absurd cc
reply-lacking v next later z None fault replies = elim (is_applies v) [
  | inl applies ↦ (same (ap result_err (replies.none refl applies)), (applies, refl))
  | inr other ↦
      let any = Refused NoSuchPoint in
      let no : Err fault ≡ Ok (reply_on v next later z any) = replies.other any other in
      absurd cc
]
  where
    same : Some fault ≡ Some BadRow → fault ≡ BadRow
    same e = cc

-- a reply without its answer, behind reads: nothing is committed
pub Carries-lacking : (b : Building) (p : Text) (plan : Plan) (next : ℕ) (z : ℤ) (answer : Option Answer) (fault : StoreFault)
    (first second : Standing)
    → Replies plan.verdict next plan.next z answer (Err fault)
    → (second.is_honest → answer ≡ first_answer b first.content.tables.places p plan.apply)
    → Reads None first second → Carries b p plan next z (Err fault) first second
Carries-lacking b p plan next z answer fault first second replies given reads =
    let lacking = reply-lacking plan.verdict next plan.next z answer fault replies in
    subst (λ f. Carries b p plan next z (Err f) first second) (sym lacking.0) (record {
      goes = Goes-reported BadRow first second reads.goes (λ e. cc) (λ e. cc);
      reply = λ honest. tt;
      made = λ honest none. absurd (some_none none);
      unchanged = λ honest going other is. reads.kept honest (λ e. none_some e);
      left = λ honest was content left. inl (reads.left honest was content left);
      bad_row = λ honest bad. inr (record { verdict = lacking.1.0; apply = nothing plan.apply (sym (given honest) ∙ lacking.1.1) });
    })
  where
    some_none : Some BadRow ≡ None → ⊥
    some_none e = cc

    none_some : None ≡ Some Failed → ⊥
    none_some e = cc

    nothing : (entries : List NumberedContent) → first_answer b first.content.tables.places p entries ≡ None → entries ≡ []
    nothing [] none = refl
    nothing (entry ∷ entries) none = absurd cc

-- a commit behind reads carries out the plan
pub Carries-committed : (b : Building) (p : Text) (plan : Plan) (next : ℕ) (z : ℤ) (change : Change) (result : Result Reply StoreFault)
    (first second third : Standing)
    → (third.is_honest → IfOk result (λ reply.
    Replies plan.verdict next plan.next z (first_answer b first.content.tables.places p plan.apply) (Ok reply)))
    → Reads None first second → Commits change (result_err result) second third
    → (third.is_honest → with_change change first.content.tables ≡ moved b p plan first.content.tables)
    → Carries b p plan next z result first third
Carries-committed b p plan next z change result first second third replies reads commits makes =
    let whole = Commits-then change (result_err result) first second third reads commits in
    record {
      goes = whole.goes;
      reply = replies;
      made = λ honest none. becomes honest third.content (whole.made honest none);
      unchanged = whole.unchanged;
      left = λ honest was content left. made_or_not honest content (whole.left honest was content left);
      bad_row = λ honest bad. absurd (whole.never_bad bad);
    }
  where
    becomes : third.is_honest → (content : Content) → Makes change first.content content
        → Becomes (moved b p plan first.content.tables) first.content content
    becomes honest content made = record { tables_are = made.tables ∙ makes honest; is_sound = made.is_sound }

    made_or_not : third.is_honest → (content : Content) → (content ≡ first.content) ⊎ Makes change first.content content
        → (content ≡ first.content) ⊎ Becomes (moved b p plan first.content.tables) first.content content
    made_or_not honest content (inl same) = inl same
    made_or_not honest content (inr made) = inr (becomes honest content made)

-- a store that stays open and reports that a row cannot stand
pub Goes-bad_row : (old : Standing) → IsOpen old → Goes (Some BadRow) old old
Goes-bad_row old is_open = Goes-reported BadRow old old is_open.goes not_shut not_failed
  where
    not_shut : Some BadRow ≡ Some Shut → ⊥
    not_shut e = cc

    not_failed : Some BadRow ≡ Some Failed → ⊥
    not_failed e = cc

-- where nothing is carried out, the reply is all: it is made over a store that is open
pub reply-goes : (v : Verdict) (next later : ℕ) (z : ℤ) (answer : Option Answer) (result : Result Reply StoreFault) (old : Standing)
    → Replies v next later z answer result → IsOpen old → Goes (result_err result) old old
reply-goes v next later z answer (Ok reply) old replies is_open = is_open.goes
reply-goes v next later z answer (Err fault) old replies is_open =
    let lacking = reply-lacking v next later z answer fault replies in
    subst (λ f. Goes (Some f) old old) (sym lacking.0) (Goes-bad_row old is_open)

-- the same behind a read
pub makes_once-then : (fault : Option StoreFault) (first second third : Standing) → Reads None first second
    → MakesOnce fault second third → MakesOnce fault first third
makes_once-then fault first second third reads makes = record {
  goes = search rules;
  changes_once = changes_once_then fault first second third reads makes.goes.honest makes.changes_once;
  imported = imported_then first second third reads makes.goes.honest makes.imported;
}

-- a reply alone
pub makes_once-reply : (fault : Option StoreFault) (old : Standing) → IsOpen old → Goes fault old old → MakesOnce fault old old
makes_once-reply fault old is_open goes = record {
  goes = goes;
  changes_once = changes_once_reported fault old old is_open;
  imported = imported_read None old old is_open;
}
