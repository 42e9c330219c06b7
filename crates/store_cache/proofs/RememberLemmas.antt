-- What a store over another one remembers, after a read of that one.
use Rattle.std.proofs.Common.{◌≡◌, Bool, true, false, None, Some, Result, Ok, Err, IfOk, refl, sym, ◌∙◌, subst, true≢false}
use Rattle.std.specs.Bool.{IsTrue}
use Rattle.std.specs.Result.{result_err}
use Rattle.store.specs.Asked.{Asked, Judges}
use Rattle.store.specs.Asked.Asked.{ArrayOf, EntriesOf, LastTick, NextOf, RowOf, ShownBy}
use Rattle.store.specs.Change.{with_change}
use Rattle.store.specs.Standing.{Commits, Reads, Standing}
use Rattle.store.specs.Tables.{Tables}
use Rattle.store.specs.declared.change.Change.{Change}
use Rattle.store.specs.declared.fault.StoreFault.{StoreFault}
use Rattle.store.specs.declared.fault.StoreFault.TheVariants.{BadRow, Failed, NoMemory, Shut}
use Rattle.store.proofs.ReadLemmas.{was_open}
use Rattle.store_cache.specs.declared.memory.Memory.{Memory}
use Rattle.store_cache.specs.Recalled.{Recalls}
use Rattle.store_cache.specs.Remembering.{Remembers, shut_after}

-- a row that can stand is reported by no fault
pub judged : (broken : Bool) → broken ≡ false → Judges (IsTrue broken) None
judged broken stands = record { bad = λ (is : None ≡ Some BadRow). cc; stood = λ _ is. true≢false (sym is ∙ stands) }

not_true : (b : Bool) → (IsTrue b → ⊥) → b ≡ false
not_true true none = absurd (none refl)
not_true false none = refl

module _ {T : Type 0} (answer : Result T StoreFault) (value : T) (is : answer ≡ Ok value) where
  -- a row that was answered can stand
  pub answered_stands : (broken : Bool) → Judges (IsTrue broken) (result_err answer) → broken ≡ false
  answered_stands broken judges = not_true broken ((subst (λ r. Judges (IsTrue broken) (result_err r)) is judges).stood refl)

  -- what is said of an answer
  pub answered_is : (P : T → Type 0) → IfOk answer P → P value
  answered_is P here = subst (λ r. IfOk r P) is here

  module _ (before after : Standing) (memory now : Memory) (was_shut now_shut : Bool) where
    -- the same or more is remembered after a read that was answered
    pub remembers_more : Remembers before memory was_shut → was_shut ≡ false → now_shut ≡ shut_after (result_err answer) was_shut
        → Reads (result_err answer) before after
        → (after.is_honest → Recalls memory before.content.tables before.cannot_stand
        → Recalls now before.content.tables before.cannot_stand)
        → Remembers after now now_shut
    remembers_more remembers open_before shut reads more =
        let none : Reads None before after = subst (λ r. Reads (result_err r) before after) is reads in
        let still : now_shut ≡ was_shut = subst (λ r. now_shut ≡ shut_after (result_err r) was_shut) is shut in
        record {
          shut = none.goes.goes_on (λ e. cc) ∙ remembers.shut ∙ sym still;
          settled = none.goes.settled;
          recalls = λ honest going.
              let recalls : Recalls now before.content.tables before.cannot_stand =
              more honest (remembers.recalls (none.goes.honest honest) open_before) in
              subst (λ rows. Recalls now after.content.tables rows) (sym (none.rows honest (λ e. cc)))
              (subst (λ c. Recalls now c.tables before.cannot_stand) (sym (none.kept honest (λ e. cc))) recalls);
        }

-- nothing is remembered of a store that a read has shown to be open
pub remembers_nothing : (before after : Standing) (memory : Memory) → Reads None before after
    → ((tables : Tables) (cannot_stand : Asked → Bool) → Recalls memory tables cannot_stand) → Remembers after memory false
remembers_nothing before after memory reads empty = record {
  shut = reads.goes.goes_on (λ e. cc) ∙ was_open None before after reads.goes (λ e. cc);
  settled = reads.goes.settled;
  recalls = λ honest going. empty after.content.tables after.cannot_stand;
}

-- what can stand still is remembered still
still_recalls : (memory : Memory) (tables : Tables) (old new : Asked → Bool) → ((asked : Asked) → old asked ≡ false → new asked ≡ false)
    → Recalls memory tables old → Recalls memory tables new
still_recalls memory tables old new stands recalls = record {
  nexts = λ name value is. let both = recalls.nexts name value is in (both.0, stands (NextOf name) both.1);
  free = λ panel value is. (
    λ n after before. let both = (recalls.free panel value is).0 n after before in
        (both.0, λ broken. true≢false (sym broken.1 ∙ stands (RowOf panel n) (not_true (old (RowOf panel n)) (λ was. both.1 (broken.0, was))))),
    refl,
  );
  arrays = λ name value is. let both = recalls.arrays name value is in (both.0, stands (ArrayOf name) both.1);
  shown = λ name value is. let both = recalls.shown name value is in (both.0, stands (ShownBy name) both.1);
  entries = λ name value is. let both = recalls.entries name value is in (both.0, stands (EntriesOf name) both.1);
  last_tick = λ last is. let both = recalls.last_tick last is in (both.0, stands LastTick both.1);
}

module _ (change : Change) (before after : Standing) (memory : Memory) (was_shut : Bool) (remembers : Remembers before memory was_shut)
    (open_before : was_shut ≡ false) where
  -- a commit that was refused, and shut nothing
  refused : (fault : StoreFault) → Commits change (Some fault) before after → (Some fault ≡ Some Failed → ⊥) → Remembers after memory was_shut
  refused fault commits goes_on =
      let same_shut : after.is_shut ≡ was_shut = commits.goes.goes_on goes_on ∙ remembers.shut in
      let going : after.is_shut ≡ false = same_shut ∙ open_before in
      record {
        shut = same_shut;
        settled = commits.goes.settled;
        recalls = λ honest _.
            still_recalls memory after.content.tables before.cannot_stand after.cannot_stand (λ asked. commits.stands honest going asked)
            (subst (λ c. Recalls memory c.tables before.cannot_stand) (sym (commits.unchanged honest going fault refl))
            (remembers.recalls (commits.goes.honest honest) open_before));
      }

  refused_by : (fault : StoreFault) → Commits change (Some fault) before after → Remembers after memory (shut_after (Some fault) was_shut)
  refused_by NoMemory commits = refused NoMemory commits (λ e. cc)
  refused_by Failed commits = record {
    shut = (commits.goes.failed refl).0;
    settled = commits.goes.settled;
    recalls = λ honest going. absurd (true≢false going);
  }
  refused_by Shut commits = refused Shut commits (λ e. cc)
  refused_by BadRow commits = refused BadRow commits (λ e. cc)

  module _ {T : Type 0} (answer : Result T StoreFault) (now_shut : Bool) (shut : now_shut ≡ shut_after (result_err answer) was_shut)
      (commits : Commits change (result_err answer) before after) where
    -- after a commit that was refused the same is remembered
    pub remembers_refused : (fault : StoreFault) → answer ≡ Err fault → Remembers after memory now_shut
    remembers_refused fault is =
        subst (Remembers after memory) (sym (subst (λ r. now_shut ≡ shut_after (result_err r) was_shut) is shut))
        (refused_by fault (subst (λ r. Commits change (result_err r) before after) is commits))

    -- after one that succeeded, the change is carried over
    pub remembers_made : (now : Memory) (value : T) → answer ≡ Ok value
        → ((tables : Tables) (cannot_stand : Asked → Bool) → Recalls memory tables cannot_stand
        → Recalls now (with_change change tables) cannot_stand)
        → Remembers after now now_shut
    remembers_made now value is put =
        let made : Commits change None before after = subst (λ r. Commits change (result_err r) before after) is commits in
        let still : now_shut ≡ was_shut = subst (λ r. now_shut ≡ shut_after (result_err r) was_shut) is shut in
        let same_shut : after.is_shut ≡ was_shut = made.goes.goes_on (λ e. cc) ∙ remembers.shut in
        record {
          shut = same_shut ∙ sym still;
          settled = made.goes.settled;
          recalls = λ honest _.
              still_recalls now after.content.tables before.cannot_stand after.cannot_stand
              (λ asked. made.stands honest (same_shut ∙ open_before) asked)
              (subst (λ t. Recalls now t before.cannot_stand) (sym (made.made honest refl).tables)
              (put before.content.tables before.cannot_stand (remembers.recalls (made.goes.honest honest) open_before)));
        }
