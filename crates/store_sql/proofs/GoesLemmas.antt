-- What a call says of the failures of a store.
use Rattle.std.proofs.Common.{◌≡◌, ◌≤◌, ℕ, Bool, true, false, Option, Some, refl, sym, ap, ◌∙◌, IsTrue, true≢false}
use Rattle.sqlite_trees.specs.Tree.{Trees}
use Rattle.sqlite_trees.specs.View.{doubt}
use Rattle.sqlite.specs.State.{State}
use Rattle.store_sql.proofs.ReadLemmas.{clean_before}
use Rattle.store_sql_rows.specs.Ours.{content_of}
use Rattle.store.specs.declared.fault.StoreFault.{StoreFault}
use Rattle.store.specs.declared.fault.StoreFault.TheVariants.{Failed, Shut}
use Rattle.store.specs.Standing.{Goes, HasRisen, IsSettled}
use Rattle.store_sql.specs.Standing.{IsFit, standing_at}

-- while the connection is open, a stop leaves the last commit and nothing else
abbrev pub Settles : State → Type 0
Settles s = (db : Trees) → IsTrue s.is_open → s.may_leave db → db ≡ s.committed.trees

pub settled_at : (s : State) (failures : ℕ) (is_shut : Bool) → Settles s → IsFit s is_shut → IsSettled (standing_at s failures is_shut)
settled_at s failures is_shut settles fit clean unshut content left =
    left.2 ∙ ap content_of (settles left.0 (fit.stands clean unshut).is_open left.1)

-- a shut store answers S3 and is left as it is
pub shut_goes : (s : State) (failures : ℕ) (is_shut : Bool) → is_shut ≡ true
    → Goes (Some Shut) (standing_at s failures is_shut) (standing_at s failures is_shut)
shut_goes s failures is_shut shut = record {
  honest = λ h. h;
  shut = (λ _. shut, λ _. refl);
  untouched = λ _ _. record { content = refl; leaves = λ content left. left };
  goes_on = λ _. refl;
  steady = λ _. refl;
  failed = λ is. absurd (let e = is in cc);
  settled = λ clean unshut. absurd (true≢false (sym shut ∙ unshut));
}

-- a store that was open, before a call and after it
module _ (old new : State) (failures : ℕ) (was_shut : Bool) (was_open : was_shut ≡ false) (less : doubt old.is_clean ≤ doubt new.is_clean) where
  -- it stays open
  pub open_goes : (fault : Option StoreFault) (now_shut : Bool) → now_shut ≡ was_shut → (fault ≡ Some Shut → ⊥) → (fault ≡ Some Failed → ⊥)
      → Settles new → IsFit new now_shut → Goes fault (standing_at old failures was_shut) (standing_at new failures now_shut)
  open_goes fault now_shut same_shut unshut unfailed settles fit = record {
    honest = clean_before old new less;
    shut = (λ is. absurd (unshut is), λ is. absurd (true≢false (sym is ∙ was_open)));
    untouched = λ _ is. absurd (true≢false (sym is ∙ was_open));
    goes_on = λ _. same_shut;
    steady = λ _. refl;
    failed = λ is. absurd (unfailed is);
    settled = settled_at new failures now_shut settles fit;
  }

  -- the failure is counted, and shuts it
  pub failed_goes : (risen : ℕ) (now_shut : Bool) → now_shut ≡ true → HasRisen failures risen
      → Goes (Some Failed) (standing_at old failures was_shut) (standing_at new risen now_shut)
  failed_goes risen now_shut shut has_risen = record {
    honest = clean_before old new less;
    shut = (λ is. absurd (let e = is in cc), λ is. absurd (true≢false (sym is ∙ was_open)));
    untouched = λ _ is. absurd (true≢false (sym is ∙ was_open));
    goes_on = λ unfailed. absurd (unfailed refl);
    steady = λ unfailed. absurd (unfailed refl);
    failed = λ _. (shut, has_risen);
    settled = λ clean unshut. absurd (true≢false (sym shut ∙ unshut));
  }
