-- What a read, and the telling of its fault, leave of a store.
use Rattle.std.specs.Result.{result_err}
use Rattle.std.proofs.Common.{◌≡◌, inl, inr, ℕ, Bool, true, false, Option, Some, None, Result, Ok, Err, IfOk, refl, sym, ap, ◌∙◌, subst, IsTrue, true≢false}
use Rattle.sqlite_trees.specs.Tree.{Trees}
use Rattle.sqlite_trees.specs.declared.store.Store.{Ghosts}
use Rattle.sqlite.specs.Held.{Held, state}
use Rattle.sqlite.specs.State.{HasCleanDisk, IsUnchanged, State, Survives}
use Rattle.sqlite.proofs.StateLemmas.{survives_then}
use Rattle.store_sql_rows.specs.Broken.{cannot_stand_in}
use Rattle.store_sql_rows.specs.Looking.{Rests}
use Rattle.store_sql.specs.Leaving.{Answers, Sees, is_sql}
use Rattle.store_sql.proofs.ReadLemmas.{clean_before}
use Rattle.store_sql_rows.specs.Ours.{IsOurs, content_of, kept_in}
use Rattle.store.specs.declared.fault.StoreFault.{StoreFault}
use Rattle.store.specs.declared.fault.StoreFault.TheVariants.{BadRow, Failed, NoMemory, Shut}
use Rattle.store.specs.Standing.{HasRisen, Reads}
use Rattle.store_sql_rows.specs.declared.read_fault.ReadFault.{ReadFault}
use Rattle.store_sql_rows.specs.declared.read_fault.ReadFault.TheVariants as read
use Rattle.store_sql_rows.specs.Stored.{Kept, is_sound_in}
use Rattle.store.specs.Asked.{Judges}
use Rattle.store_sql.specs.Opening.{Stands}
use Rattle.store_sql.specs.Standing.{IsFit, standing_at, standing_of}
use Rattle.store_sql.specs.declared.session.Session.{Session}
use Rattle.store_sql.specs.Judging.{IsRefusal, IsReported}
use Rattle.store_sql.proofs.GoesLemmas.{Settles, failed_goes, open_goes}

sees_stands : (old new : State) → Sees old new → Stands old → Stands new
sees_stands old new sees stands = record {
  is_open = sees.is_open ∙ stands.is_open;
  ours = subst IsOurs (sym sees.now) stands.ours;
  same = sees.now ∙ stands.same ∙ sym sees.committed;
}

-- What a read of a store that was open leaves: old before it, new after its fault was reported.
module _ (old new : State) (failures : ℕ) (was_shut : Bool) (was_open : was_shut ≡ false) (fit : IsFit old was_shut)
    (settles_old : Settles old) (settles_new : Settles new)
    (mode : old.in_transaction ≡ false → new.in_transaction ≡ false) (survives : Survives old new (λ _. IsOurs old.now → ⊥)) where
  ours_before : HasCleanDisk new → Stands old
  ours_before clean = fit.stands (clean_before old new survives.clean clean) was_open

  left_before : HasCleanDisk new → (content : _) → (db : Trees) × new.may_leave db × (content ≡ content_of db)
      → content ≡ content_of old.committed.trees
  left_before clean content left =
      elim (survives.crash clean left.0 left.1) [
        | inl could ↦ left.2 ∙ ap content_of (settles_old left.0 (ours_before clean).is_open could)
        | inr never ↦ absurd (never (ours_before clean).ours)
      ]

  -- it was answered, or refused with a fault that leaves the store open
  pub goes_open : (fault : Option StoreFault) (now_shut : Bool) → now_shut ≡ was_shut → (fault ≡ Some Shut → ⊥) → (fault ≡ Some Failed → ⊥)
      → (HasCleanDisk new → Sees old new)
      → (fault ≡ Some BadRow → HasCleanDisk new → is_sound_in (kept_in old.now.trees) ≡ false)
      → IsFit new now_shut × Reads fault (standing_at old failures was_shut) (standing_at new failures now_shut)
  goes_open fault now_shut same_shut unshut unfailed sees bad =
      let now_fit : IsFit new now_shut =
      record { mode = mode fit.mode; stands = λ clean _. sees_stands old new (sees clean) (ours_before clean) } in (
        now_fit,
        record {
          goes = open_goes old new failures was_shut was_open survives.clean fault now_shut same_shut unshut unfailed settles_new now_fit;
          kept = λ clean _. ap (λ d. content_of d.trees) (sees clean).committed;
          rows = λ clean _. ap (λ d. cannot_stand_in (kept_in d.trees)) (sees clean).committed;
          left = λ clean _ content left. left_before clean content left;
          bad_row = λ clean is. ap (λ d. is_sound_in (kept_in d.trees)) (sym (ours_before clean).same) ∙ bad is clean;
        },
      )

  -- the database failed
  pub goes_shut : (risen : ℕ) (now_shut : Bool) → now_shut ≡ true → HasRisen failures risen
      → IsFit new now_shut × Reads (Some Failed) (standing_at old failures was_shut) (standing_at new risen now_shut)
  goes_shut risen now_shut shut has_risen = (
    record { mode = mode fit.mode; stands = λ _ unshut. absurd (true≢false (sym shut ∙ unshut)) },
    record {
      goes = failed_goes old new failures was_shut was_open survives.clean risen now_shut shut has_risen;
      kept = λ _ unfailed. absurd (unfailed refl);
      rows = λ _ unfailed. absurd (unfailed refl);
      left = λ clean _ content left. left_before clean content left;
      bad_row = λ _ is. absurd (let e = is in cc);
    },
  )

-- after a refusal a connection that goes on sees what it saw
refused_sees : (old mid new : State) → Stands old → Rests old mid → IsUnchanged mid new → Sees old new
refused_sees old mid new stands rests same =
    let here : IsTrue mid.is_open = same.0.was_open in
    let left = rests.same stands.same here in
    record { now = same.0.now_is ∙ left.0; committed = same.0.committed_is ∙ left.1; is_open = same.0.is_open ∙ sym stands.is_open }

-- What a read leaves of a store, once its answer was reported.
pub record Left {S A : Type 0} (g : Ghosts S) (before now : Session S) (Holds : Kept → A → Type 0) (Broken : Kept → Type 0)
    (reported : Result A StoreFault) : Type 0 where
  pub fit : IsFit (state g now.connection) now.is_shut
  pub reads : Reads (result_err reported) (standing_of g before) (standing_of g now)
  pub value : HasCleanDisk (state g now.connection) → IfOk reported (Holds (kept_in (state g before.connection).committed.trees))
  pub bad : HasCleanDisk (state g now.connection) → result_err reported ≡ Some BadRow → Broken (kept_in (state g before.connection).committed.trees)

-- the store beside a connection that was asked
abbrev asked_by : {S : Type 0} → Session S → Held S → Session S
asked_by before asking = record { connection = asking; failures = before.failures; is_shut = before.is_shut }

-- A read of a store that was open: before it, after the question, and now.
module _ {S A : Type 0} {Holds : Kept → A → Type 0} {Broken : Kept → Type 0} (g : Ghosts S) (before : Session S) (asking : Held S)
    (now : Session S) (asked : Result A ReadFault) (reported : Result A StoreFault)
    (unsound : (kept : Kept) → Broken kept → is_sound_in kept ≡ false)
    (was_open : before.is_shut ≡ false) (fit : IsFit (state g before.connection) before.is_shut)
    (settles : (h : Held S) → Settles (state g h))
    (answers : Answers Holds Broken (state g before.connection) (state g asking) asked)
    (reported_mode : (state g asking).in_transaction ≡ false → (state g now.connection).in_transaction ≡ false)
    (reported_survives : Survives (state g asking) (state g now.connection) (λ _. ⊥))
    (is_reported : IsReported g (asked_by before asking) now asked reported) where
  abbrev after : Session S
  after = asked_by before asking

  abbrev old : State
  old = state g before.connection

  abbrev mid : State
  mid = state g asking

  abbrev new : State
  new = state g now.connection

  abbrev Goes : Option StoreFault → ℕ → Bool → Type 0
  Goes it failures is_shut =
      IsFit new is_shut × Reads it (standing_at old before.failures before.is_shut) (standing_at new failures is_shut)

  both : Survives old new (λ _. IsOurs old.now → ⊥)
  both =
      survives_then old mid new (λ _. IsOurs old.now → ⊥) (λ _. ⊥) (λ _. IsOurs old.now → ⊥) (λ _ db never. never)
      (λ _ db none. absurd none) answers.survives reported_survives

  clean_mid : HasCleanDisk new → HasCleanDisk mid
  clean_mid clean = clean_before mid new reported_survives.clean clean

  stood : HasCleanDisk new → Stands old
  stood clean = fit.stands (clean_before old mid answers.survives.clean (clean_mid clean)) was_open

  left_open : (it : Option StoreFault) → (it ≡ Some Shut → ⊥) → (it ≡ Some Failed → ⊥) → (HasCleanDisk new → Sees old new)
      → (it ≡ Some BadRow → HasCleanDisk new → is_sound_in (kept_in old.now.trees) ≡ false)
      → now.failures ≡ before.failures → now.is_shut ≡ before.is_shut → Goes it now.failures now.is_shut
  left_open it unshut unfailed sees broken failures_are shut_is =
      subst (λ n. Goes it n now.is_shut) (sym failures_are)
      (goes_open old new before.failures before.is_shut was_open fit (settles before.connection) (settles now.connection)
      (λ m. reported_mode (answers.mode m)) both it now.is_shut shut_is
      unshut unfailed sees broken)

  -- a question that the database did not refuse leaves what it saw
  seen : (answer : Result A ReadFault) → asked ≡ answer → is_sql (result_err answer) ≡ false → now ≡ after → HasCleanDisk new → Sees old new
  seen answer is unrefused same clean =
      elim (answers.asks (clean_mid clean) (stood clean).ours).same [
        | inl refused ↦ absurd (true≢false (sym refused ∙ ap (λ r. is_sql (result_err r)) is ∙ unrefused))
        | inr sees ↦ subst (λ (o : Session S). Sees old (state g o.connection)) (sym same) sees
      ]

  by_refusal : (it : StoreFault) → IsRefusal g after now it → Goes (Some it) now.failures now.is_shut
  by_refusal it (inl h) =
      subst (λ t. Goes (Some t) now.failures now.is_shut) (sym h.0)
      (left_open (Some NoMemory) (λ x. absurd (let y = x in cc)) (λ x. absurd (let y = x in cc))
      (λ clean. refused_sees old mid new (stood clean) (answers.asks (clean_mid clean) (stood clean).ours).rests (h.1.unchanged clean))
      (λ x. absurd (let y = x in cc)) h.1.failures_are h.1.shut_is)
  by_refusal it (inr h) =
      subst (λ t. Goes (Some t) now.failures now.is_shut) (sym h.0)
      (goes_shut old new before.failures before.is_shut was_open fit (settles before.connection) (settles now.connection)
      (λ m. reported_mode (answers.mode m)) both now.failures now.is_shut h.1.shut
      h.1.risen)

  by_answer : (answer : Result A ReadFault) → asked ≡ answer → IsReported g after now answer reported
      → Goes (result_err reported) now.failures now.is_shut
  by_answer (Ok value) is h =
      subst (λ t. Goes (result_err t) now.failures now.is_shut) (sym h.0)
      (left_open None (λ e. absurd (let x = e in cc)) (λ e. absurd (let x = e in cc)) (seen (Ok value) is refl h.1)
      (λ e. absurd (let x = e in cc))
      (ap (λ (o : Session S). o.failures) h.1) (ap (λ (o : Session S). o.is_shut) h.1))
  by_answer (Err read.BadRow) is h =
      subst (λ t. Goes (result_err t) now.failures now.is_shut) (sym h.1)
      (subst (λ t. Goes (Some t) now.failures now.is_shut) (sym h.2.0)
      (left_open (Some BadRow) (λ e. absurd (let x = e in cc)) (λ e. absurd (let x = e in cc))
      (seen (Err read.BadRow) is refl h.2.1) (λ _ clean. unsound (kept_in old.now.trees) (answers.bad (clean_mid clean) (stood clean).ours is))
      (ap (λ (o : Session S). o.failures) h.2.1) (ap (λ (o : Session S). o.is_shut) h.2.1)))
  by_answer (Err (read.Sql e)) is h =
      subst (λ t. Goes (result_err t) now.failures now.is_shut) (sym h.1) (by_refusal h.0 h.2)

  value_by : (answer : Result A ReadFault) → IsReported g after now answer reported
      → IfOk answer (Holds (kept_in old.now.trees)) → IfOk reported (Holds (kept_in old.now.trees))
  value_by (Ok value) h holds = subst (λ t. IfOk t (Holds (kept_in old.now.trees))) (sym h.0) holds
  value_by (Err fault) h holds = subst (λ t. IfOk t (Holds (kept_in old.now.trees))) (sym h.1) holds

  bad_by : (answer : Result A ReadFault) → IsReported g after now answer reported
      → (answer ≡ Err read.BadRow → Broken (kept_in old.now.trees)) → result_err reported ≡ Some BadRow → Broken (kept_in old.now.trees)
  bad_by (Ok value) h bad is = absurd (let e : None ≡ Some BadRow = sym (ap result_err h.0) ∙ is in let n : ⊥ = cc in n)
  bad_by (Err read.BadRow) h bad is = bad refl
  bad_by (Err (read.Sql e)) h bad is = elim h.2 [
    | inl memory ↦ absurd (let e : Some NoMemory ≡ Some BadRow = sym (ap result_err h.1 ∙ ap Some memory.0) ∙ is in let n : ⊥ = cc in n)
    | inr failed ↦ absurd (let e : Some Failed ≡ Some BadRow = sym (ap result_err h.1 ∙ ap Some failed.0) ∙ is in let n : ⊥ = cc in n)
  ]

  -- The store stands as it should, and what the trait says of a read holds. What is reported is what the tables hold, and
  -- S5 is reported only where a row that was asked for cannot stand.
  pub reported_left : Left g before now Holds Broken reported
  reported_left =
      let both = by_answer asked refl is_reported in
      record {
        fit = both.0;
        reads = both.1;
        value =
            λ clean. subst (λ d. IfOk reported (Holds (kept_in d.trees))) (stood clean).same
            (value_by asked is_reported (answers.value (clean_mid clean) (stood clean).ours));
        bad =
            λ clean is. subst (λ d. Broken (kept_in d.trees)) (stood clean).same
            (bad_by asked is_reported (answers.bad (clean_mid clean) (stood clean).ours) is);
      }

module _ {S A : Type 0} {Holds : Kept → A → Type 0} {Broken : Kept → Type 0} {g : Ghosts S} {before now : Session S}
    {reported : Result A StoreFault} (left : Left g before now Holds Broken reported) (clean : HasCleanDisk (state g now.connection)) where
  abbrev kept : Kept
  kept = kept_in (state g before.connection).committed.trees

  said : (Said : A → Type 0) (r : Result A StoreFault) → ((it : A) → Holds kept it → Said it) → IfOk r (Holds kept) → IfOk r Said
  said Said (Ok it) follows holds = follows it holds
  said Said (Err fault) follows holds = tt

  -- what follows from an answer
  pub value_left : (Said : A → Type 0) → ((it : A) → Holds kept it → Said it) → IfOk reported Said
  value_left Said follows = said Said reported follows (left.value clean)

  never_bad : (r : Result A StoreFault) → IfOk r (λ _. Broken kept → ⊥) → result_err r ≡ None → Broken kept → ⊥
  never_bad (Ok it) sound none = sound
  never_bad (Err fault) sound none = absurd (let n : ⊥ = cc in n)

  -- S5 is reported where a row that was asked for cannot stand, and no answer is
  pub judges_left : ((it : A) → Holds kept it → Broken kept → ⊥) → Judges (Broken kept) (result_err reported)
  judges_left sound = record { bad = left.bad clean; stood = never_bad reported (value_left (λ _. Broken kept → ⊥) sound) }
