-- What a statement in a transaction keeps.
use Rattle.std.proofs.Common.{◌≡◌, ◌∙◌, inl, inr, ℕ, List, IfOk, IsTrue, true, false, Ok, Err, Result, subst}
use Rattle.std.proofs.lemmas.Bool.{cases_Bool}
use Rattle.sqlite_schema.specs.declared.schema.Constraint.TheVariants.{Unique}
use Rattle.sqlite_value.specs.Order.{Row}
use Rattle.sqlite.specs.declared.error.Error.{Error}
use Rattle.sqlite.specs.declared.error.Error.TheVariants.{SqliteFailure}
use Rattle.sqlite.specs.declared.error.ErrorCode.TheVariants.{ConstraintViolation}
use Rattle.std.specs.Borrow.{MutBor}
use Rattle.sqlite_trees.specs.declared.store.Store.{Ghosts}
use Rattle.sqlite.specs.Held.{Held, state}
use Rattle.sqlite.specs.State.{ExecutesIn, ExecutesInside, Fails, HasCleanDisk, IsNotRun, IsRolledBack, IsUnchanged, KeepsCommit, Shows, State, Survives, shows_rows, store_error}
use Rattle.sqlite_trees.specs.declared.error.StoreError.{StoreError}
use Rattle.sqlite_trees.specs.declared.error.StoreError.TheVariants.{Broken, Corrupt, Full, Io, OutOfMemory, Unstorable}
use Rattle.store_sql_rows.specs.Ours.{IsInside}
use Rattle.store_sql_rows.specs.Steps.{MovesBy}

pub unchanged_keeps : (old new : State) → IsUnchanged old new → KeepsCommit old new
unchanged_keeps old new same = record { was_open = λ _. same.0.was_open; committed = λ _. same.0.committed_is }

pub rolled_keeps : (old new : State) → IsRolledBack old new → KeepsCommit old new
rolled_keeps old new back = record { was_open = back.was_open; committed = λ stands. (back.undone stands).1 }

pub inside_keeps : (sql : List ℕ) (params : Row) (old new : State) (result : Result ℕ Error) → ExecutesInside 0 sql params old new result
    → KeepsCommit old new
inside_keeps sql params old new (Ok count) h = record { was_open = λ _. h.1.was_open; committed = λ _. h.1.committed_is }
inside_keeps sql params old new (Err e) (inl h) =
    elim h.1 [ inl same ↦ unchanged_keeps old new same | inr back ↦ rolled_keeps old new back ]
inside_keeps sql params old new (Err e) (inr h) = unchanged_keeps old new h.2

-- a statement that did this, stays on its connection and commits nothing
pub moves_made : {S A : Type 0} {g : Ghosts S} {Does : A → State → State → Type 0} {old new : MutBor (Held S)} {r : Result A Error}
    → new.ghost_name ≡ old.ghost_name
    → (HasCleanDisk (state g new.now) → KeepsCommit (state g old.now) (state g new.now))
    → Survives (state g old.now) (state g new.now) (λ _. ⊥)
    → (HasCleanDisk (state g new.now) → IsInside (state g old.now) → IfOk r (λ it. Does it (state g old.now) (state g new.now)))
    → MovesBy g Does old new r
moves_made same kept survives done =
    record { same_reference = same; steps = record { done = done; kept = kept; survives = survives } }

-- ---- a key that another row has

no_failure : (cause : StoreError) → ◌≡◌ {A = Error} (SqliteFailure (ConstraintViolation Unique)) (store_error cause) → ⊥
no_failure OutOfMemory e = cc
no_failure Io e = cc
no_failure Corrupt e = cc
no_failure Full e = cc
no_failure Broken e = cc
no_failure Unstorable e = cc

unless_failed : (old new : State) (Big : Type 0) → Fails old new Big (SqliteFailure (ConstraintViolation Unique)) → ⊥
unless_failed old new Big failed = no_failure failed.0 failed.1

module _ (sql : List ℕ) (params : Row) (old new : State) where
  refused_whole : ExecutesIn false sql params old new (Err (SqliteFailure (ConstraintViolation Unique))) → IsUnchanged old new
  unfolding ExecutesIn IsNotRun
  refused_whole (inl (inl refused)) = refused.1
  refused_whole (inl (inr failed)) = absurd (unless_failed old new _ failed)
  refused_whole (inr ran) = elim (cases_Bool (shows_rows false ran.0)) [
    | inl shows ↦ (rw shows at ran.2).1
    | inr runs ↦ elim (rw runs at ran.2) [ inl refused ↦ refused.1 | inr failed ↦ absurd (unless_failed old new _ failed) ]
  ]

  -- a statement that meets another row's key leaves all as it was, and the transaction goes on
  pub refused_inside : (result : Result ℕ Error) → IsTrue old.in_transaction → ExecutesInside 0 sql params old new result
      → result ≡ Err (SqliteFailure (ConstraintViolation Unique)) → Shows old new old.now old.committed true
  refused_inside result inside h is =
      let stays = still (subst (ExecutesInside 0 sql params old new) is h) in
      record {
        was_open = stays.0.was_open;
        is_open = stays.0.is_open;
        now_is = stays.0.now_is;
        committed_is = stays.0.committed_is;
        mode = stays.0.mode ∙ inside;
      }
    where
      still : ExecutesInside 0 sql params old new (Err (SqliteFailure (ConstraintViolation Unique))) → IsUnchanged old new
      still (inl run) = refused_whole run.0
      still (inr ends) = ends.2
