-- The end of a transaction that writes a change.
use Rattle.std.proofs.Common.{◌≡◌, Bool, true, false, not, inl, inr, Ok, Err, Result, IsTrue, OnErr, IfErr, refl, sym, ap, subst, ◌∙◌}
use Rattle.sqlite_trees.specs.declared.store.Store.{Ghosts}
use Rattle.sqlite_trees.specs.Tree.{Trees}
use Rattle.sqlite.specs.declared.error.Error.{Error}
use Rattle.sqlite.specs.State.{HasCleanDisk, KeepsCommit, State, Survives}
use Rattle.sqlite.specs.Steps.{FailsToCommit}
use Rattle.sqlite.specs.Held.{Held, state}
use Rattle.sqlite.proofs.Callers.{survives_begin}
use Rattle.sqlite.proofs.StateLemmas.{survives_then}
use Rattle.store.specs.declared.change.Change.{Change}
use Rattle.store.specs.Change.{with_change}
use Rattle.store_sql_rows.specs.Ours.{IsOurs, Makes, kept_in}
use Rattle.store_sql_rows.specs.Steps.{Steps, Turns}
use Rattle.store_sql_rows.proofs.StepLemmas.{clean_before}
use Rattle.store_sql.specs.Committed.{ShowsCommitted}

module _ {S : Type 0} (g : Ghosts S) (old mid new : Held S) where
  abbrev begun : State
  begun = state g (record old { in_transaction = true })

  failed : (e : Error) → KeepsCommit begun (state g mid) → FailsToCommit (state g mid) (state g new) e
      → (IsTrue (state g new).is_open → (state g new).now ≡ (state g new).committed) → IsTrue (state g new).is_open
      → ShowsCommitted (state g old) (state g new)
  failed e kept (inl fails) settled is_open =
      let back = fails.3 in
      let was = back.was_open is_open in
      let same = kept.committed was in
      record { was_open = kept.was_open was; now = (back.undone is_open).0 ∙ same; committed = (back.undone is_open).1 ∙ same }
  failed e kept (inr late) settled is_open =
      let was = late.2.0.was_open in
      let same : (state g new).committed ≡ (state g old).committed = late.2.0.committed_is ∙ kept.committed was in
      record { was_open = kept.was_open was; now = settled is_open ∙ same; committed = same }

  by_result : {A : Type 0} (reported : Result A Error) → KeepsCommit begun (state g mid)
      → IfErr reported (FailsToCommit (state g mid) (state g new))
      → (IsTrue (state g new).is_open → (state g new).now ≡ (state g new).committed) → IsTrue (state g new).is_open
      → OnErr reported (ShowsCommitted (state g old) (state g new))
  by_result (Ok x) kept fails settled is_open = tt
  by_result (Err e) kept fails settled is_open = failed e kept fails settled is_open

  -- a commit that failed leaves a connection outside a transaction, with what was committed
  pub not_committed : {A : Type 0} {P : Trees → Type 0} (reported : Result A Error) (left : Held S) → left ≡ new
      → Survives (state g mid) (state g left) P
      → (HasCleanDisk (state g mid) → KeepsCommit begun (state g mid))
      → (HasCleanDisk (state g left) → IfErr reported (FailsToCommit (state g mid) (state g left)))
      → left.in_transaction ≡ false → (is_outside : Bool) → is_outside ≡ not new.in_transaction
      → (IsTrue is_outside → IsTrue (state g new).is_open → (state g new).now ≡ (state g new).committed)
      → HasCleanDisk (state g new) → IsTrue (state g new).is_open → OnErr reported (ShowsCommitted (state g old) (state g new))
  not_committed {P} reported left same survives kept fails ended is_outside is settled clean is_open =
      let late : HasCleanDisk (state g left) = subst (λ h. HasCleanDisk (state g h)) (sym same) clean in
      let outside : IsTrue is_outside = is ∙ ap not (ap (λ (h : Held S). h.in_transaction) (sym same) ∙ ended) in
      by_result reported (kept (clean_before (state g mid) (state g left) P survives late))
      (subst (λ h. IfErr reported (FailsToCommit (state g mid) (state g h))) same (fails late)) (settled outside) is_open

  -- a stop leaves what was there before, or the whole change
  pub survives_whole : {A : Type 0} (change : Change) (x : A)
      → Steps {A = A} (Turns (with_change change)) begun (state g mid) (Ok x)
      → Survives (state g mid) (state g new) (λ trees. trees ≡ (state g mid).now.trees)
      → Survives (state g old) (state g new) (λ trees. IsOurs (state g old).now
      → Makes (with_change change) (kept_in (state g old).now.trees) (kept_in trees))
  survives_whole change x steps commits =
      let P = λ (trees : Trees). IsOurs (state g old).now → Makes (with_change change) (kept_in (state g old).now.trees) (kept_in trees) in
      survives_begin g old (state g new) P
      (survives_then begun (state g mid) (state g new) (λ _. ⊥) (λ trees. trees ≡ (state g mid).now.trees) P (λ _ db none. absurd none)
      (λ clean db is ours.
      let clean' = clean_before (state g mid) (state g new) (λ trees. trees ≡ (state g mid).now.trees) commits clean in
      subst (λ (trees : Trees). Makes (with_change change) (kept_in (state g old).now.trees) (kept_in trees)) (sym is)
      (steps.done clean' (record { in_transaction = refl; ours = ours })).makes)
      steps.survives commits)
