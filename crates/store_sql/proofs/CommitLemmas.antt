-- What a commit, and the telling of its refusal, leave of a store.
use Rattle.std.proofs.Common.{◌≡◌, ◌⊎◌, inl, inr, ℕ, Bool, true, false, Some, None, sym, ap, ◌∙◌, subst, IsTrue, true≢false}
use Rattle.sqlite_trees.specs.Tree.{Trees}
use Rattle.sqlite_trees.specs.declared.store.Store.{Ghosts}
use Rattle.sqlite.specs.Held.{Held, state}
use Rattle.sqlite.specs.State.{HasCleanDisk, IsUnchanged, State, Survives}
use Rattle.sqlite.proofs.StateLemmas.{survives_then}
use Rattle.store_sql.proofs.ReadLemmas.{clean_before}
use Rattle.store_sql_rows.specs.Broken.{cannot_stand_in}
use Rattle.store_sql_rows.specs.Ours.{IsOurs, content_of, kept_in}
use Rattle.store_sql_rows.specs.Ours as ours
use Rattle.store.specs.declared.change.Change.{Change}
use Rattle.store.specs.declared.fault.StoreFault.{StoreFault}
use Rattle.store.specs.declared.fault.StoreFault.TheVariants.{Failed, NoMemory}
use Rattle.store.specs.Change.{with_change}
use Rattle.store.specs.Standing.{Commits, HasRisen, Makes}
use Rattle.store_sql.specs.Committed.{IsCommitted, ShowsCommitted}
use Rattle.store_sql.specs.Opening.{Stands}
use Rattle.store_sql.specs.Standing.{IsFit, standing_at}
use Rattle.store_sql.specs.Judging.{IsRefusal}
use Rattle.store_sql.specs.declared.session.Session.{Session}
use Rattle.store_sql.proofs.GoesLemmas.{Settles, failed_goes, open_goes}

-- Before a commit, after it, and once its refusal was reported.
module _ (change : Change) (old new : State) (failures : ℕ) (was_shut : Bool) (was_open : was_shut ≡ false)
    (fit : IsFit old was_shut) (settles_old : Settles old) (settles_new : Settles new)
    (mode : new.in_transaction ≡ false)
    (survives : Survives old new (λ trees. IsOurs old.now → ours.Makes (with_change change) (kept_in old.now.trees) (kept_in trees))) where
  stood : HasCleanDisk new → Stands old
  stood clean = fit.stands (clean_before old new survives.clean clean) was_open

  -- what the rows say is what the content says
  made_of : HasCleanDisk new → (trees : Trees) → ours.Makes (with_change change) (kept_in old.now.trees) (kept_in trees)
      → Makes change (content_of old.committed.trees) (content_of trees)
  made_of clean trees makes =
      subst (λ d. Makes change (content_of d.trees) (content_of trees)) (stood clean).same
      (record { tables = makes.tables; is_sound = makes.is_sound })

  left_before : HasCleanDisk new → (content : _) → (db : Trees) × new.may_leave db × (content ≡ content_of db)
      → (content ≡ content_of old.committed.trees) ⊎ Makes change (content_of old.committed.trees) content
  left_before clean content left =
      elim (survives.crash clean left.0 left.1) [
        | inl could ↦ inl (left.2 ∙ ap content_of (settles_old left.0 (stood clean).is_open could))
        | inr makes ↦ inr (subst (Makes change (content_of old.committed.trees)) (sym left.2)
            (made_of clean left.0 (makes (stood clean).ours)))
      ]

  -- the change is committed
  pub commit_made : (HasCleanDisk new → IsOurs old.now → IsCommitted change old new) → (now_shut : Bool) → now_shut ≡ was_shut
      → IsFit new now_shut × Commits change None (standing_at old failures was_shut) (standing_at new failures now_shut)
  commit_made done now_shut same_shut =
      let committed : HasCleanDisk new → IsCommitted change old new = λ clean. done clean (stood clean).ours in
      let now_fit : IsFit new now_shut =
      record {
        mode = mode;
        stands =
            λ clean _. record { is_open = (committed clean).is_open; ours = (committed clean).ours; same = (committed clean).same };
      } in (
        now_fit,
        record {
          goes = open_goes old new failures was_shut was_open survives.clean None now_shut same_shut
              (λ is. absurd (let e = is in cc)) (λ is. absurd (let e = is in cc)) settles_new now_fit;
          made =
              λ clean _. subst (λ d. Makes change (content_of old.committed.trees) (content_of d.trees)) (committed clean).same
              (made_of clean new.now.trees (committed clean).makes);
          unchanged = λ _ _ it is. absurd (let e = is in cc);
          left = λ clean _. left_before clean;
          never_bad = λ is. absurd (let e = is in cc);
          stands = λ clean _ asked could.
              subst (λ d. cannot_stand_in (kept_in d.trees) asked ≡ false) (committed clean).same
              ((committed clean).makes.stands asked
              (subst (λ d. cannot_stand_in (kept_in d.trees) asked ≡ false) (sym (stood clean).same) could));
        },
      )

  -- memory was refused, and the connection goes on with what it had
  pub commit_refused : (HasCleanDisk new → (new.now ≡ old.committed) × (new.committed ≡ old.committed) × IsTrue new.is_open)
      → (now_shut : Bool) → now_shut ≡ was_shut
      → IsFit new now_shut × Commits change (Some NoMemory) (standing_at old failures was_shut) (standing_at new failures now_shut)
  commit_refused undone now_shut same_shut =
      let now_fit : IsFit new now_shut = record {
        mode = mode;
        stands = λ clean _. record {
          is_open = (undone clean).2;
          ours = subst IsOurs (sym ((undone clean).0 ∙ sym (stood clean).same)) (stood clean).ours;
          same = (undone clean).0 ∙ sym (undone clean).1;
        };
      } in (
        now_fit,
        record {
          goes = open_goes old new failures was_shut was_open survives.clean (Some NoMemory) now_shut same_shut
              (λ is. absurd (let e = is in cc)) (λ is. absurd (let e = is in cc)) settles_new now_fit;
          made = λ _ is. absurd (let e = is in cc);
          unchanged = λ clean _ it is. ap (λ d. content_of d.trees) (undone clean).1;
          left = λ clean _. left_before clean;
          never_bad = λ is. absurd (let e = is in cc);
          stands = λ clean _ asked could.
              subst (λ d. cannot_stand_in (kept_in d.trees) asked ≡ false) (sym (undone clean).1) could;
        },
      )

  -- the database failed
  pub commit_failed : (risen : ℕ) (now_shut : Bool) → now_shut ≡ true → HasRisen failures risen
      → IsFit new now_shut × Commits change (Some Failed) (standing_at old failures was_shut) (standing_at new risen now_shut)
  commit_failed risen now_shut shut has_risen = (
    record { mode = mode; stands = λ _ unshut. absurd (true≢false (sym shut ∙ unshut)) },
    record {
      goes = failed_goes old new failures was_shut was_open survives.clean risen now_shut shut has_risen;
      made = λ _ is. absurd (let e = is in cc);
      unchanged = λ _ unshut. absurd (true≢false (sym shut ∙ unshut));
      left = λ clean _. left_before clean;
      never_bad = λ is. absurd (let e = is in cc);
      stands = λ _ unshut. absurd (true≢false (sym shut ∙ unshut));
    },
  )

-- A commit that was refused, before it, after it, and once that was reported.
module _ {S : Type 0} (g : Ghosts S) (change : Change) (before after now : Session S) (reported : StoreFault)
    (same_failures : after.failures ≡ before.failures) (same_shut : after.is_shut ≡ before.is_shut)
    (was_open : before.is_shut ≡ false) (fit : IsFit (state g before.connection) before.is_shut)
    (settles : (h : Held S) → Settles (state g h))
    (mode : (state g after.connection).in_transaction ≡ false)
    (undone : HasCleanDisk (state g after.connection) → IsTrue (state g after.connection).is_open
    → ShowsCommitted (state g before.connection) (state g after.connection))
    (survives : Survives (state g before.connection) (state g after.connection)
    (λ trees. IsOurs (state g before.connection).now
    → ours.Makes (with_change change) (kept_in (state g before.connection).now.trees) (kept_in trees)))
    (reported_mode : (state g after.connection).in_transaction ≡ false → (state g now.connection).in_transaction ≡ false)
    (reported_survives : Survives (state g after.connection) (state g now.connection) (λ _. ⊥))
    (refusal : IsRefusal g after now reported) where
  abbrev old : State
  old = state g before.connection

  abbrev mid : State
  mid = state g after.connection

  abbrev new : State
  new = state g now.connection

  abbrev CouldMake : Trees → Type 0
  CouldMake trees = IsOurs old.now → ours.Makes (with_change change) (kept_in old.now.trees) (kept_in trees)

  both : Survives old new CouldMake
  both = survives_then old mid new CouldMake (λ _. ⊥) CouldMake (λ _ db makes. makes) (λ _ db none. absurd none) survives reported_survives

  abbrev Left : StoreFault → ℕ → Bool → Type 0
  Left it failures is_shut =
      IsFit new is_shut × Commits change (Some it) (standing_at old before.failures before.is_shut) (standing_at new failures is_shut)

  went_back : HasCleanDisk new → IsUnchanged mid new → (new.now ≡ old.committed) × (new.committed ≡ old.committed) × IsTrue new.is_open
  went_back clean same =
      let back = undone (clean_before mid new reported_survives.clean clean) same.0.was_open in
      (same.0.now_is ∙ back.now, same.0.committed_is ∙ back.committed, same.0.is_open)

  pub commit_left : Left reported now.failures now.is_shut
  commit_left = elim refusal [
    | inl h ↦
        subst (λ t. Left t now.failures now.is_shut) (sym h.0)
        (subst (λ n. Left NoMemory n now.is_shut) (sym (h.1.failures_are ∙ same_failures))
        (commit_refused change old new before.failures before.is_shut was_open fit (settles before.connection)
        (settles now.connection) (reported_mode mode) both
        (λ clean. went_back clean (h.1.unchanged clean)) now.is_shut (h.1.shut_is ∙ same_shut)))
    | inr h ↦
        subst (λ t. Left t now.failures now.is_shut) (sym h.0)
        (commit_failed change old new before.failures before.is_shut was_open fit (settles before.connection)
        (settles now.connection) (reported_mode mode) both now.failures now.is_shut h.1.shut
        (subst (λ n. HasRisen n now.failures) same_failures h.1.risen))
  ]
