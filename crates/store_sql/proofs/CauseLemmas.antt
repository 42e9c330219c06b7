-- Why an opening is refused.
use Rattle.std.proofs.Common.{◌≡◌, inl, inr, ℤ, true, Bool, Ok, Err, IfErr, IfSome, Result, sym, ap, subst, ◌∙◌}
use Rattle.std.specs.Result.{result_err}
use Rattle.sqlite_trees.specs.Tree.{Trees}
use Rattle.sqlite.specs.declared.error.Error.{Error}
use Rattle.sqlite.specs.Effect.{Database}
use Rattle.sqlite.specs.State.{HasCleanDisk, IsUnchanged, State, Survives}
use Rattle.store.specs.declared.open_fault.OpenFault.{OpenFault}
use Rattle.store.specs.declared.open_fault.OpenFault.TheVariants.{Failed, NoMemory}
use Rattle.store_sql_rows.specs.Failing.{FailsFor}
use Rattle.store_sql_rows.specs.Ours.{IsOurs}
use Rattle.store_sql_rows.specs.declared.read_fault.ReadFault.{ReadFault}
use Rattle.store_sql_rows.specs.declared.read_fault.ReadFault.TheVariants as read
use Rattle.store_sql_rows.specs.Stored.{Kept}
use Rattle.store_sql_rows.proofs.FailLemmas.{fails_later, fails_later_if}
use Rattle.store_sql.specs.declared.refusal.Refusal.{Refusal}
use Rattle.store_sql.specs.declared.refusal.Refusal.TheVariants.{BadRow, NotOurs, Sql}
use Rattle.store_sql.specs.Fitting.{IsFitting}
use Rattle.store_sql.specs.Opened.{HasCause, reported_as}
use Rattle.store_sql.specs.Leaving.{Answers, Asks, FailsToRead}
use Rattle.store_sql.specs.Opening.{IsCaused, IsFirst, IsJudged, IsSettled, as_version, refusal_of}
use Rattle.store_sql.proofs.OpenLemmas.{answered_sees, judged_ours}
use Rattle.store_sql.proofs.ReadLemmas.{clean_before, fault_later}

by_refusal : (old new : State) (refusal : Refusal) → IsCaused old new refusal → HasCause old new (reported_as refusal)
by_refusal old new (Sql error) fails failed = elim fails.cause [
  | inl memory ↦ absurd (let both : Failed ≡ NoMemory = sym failed ∙ ap (λ e. reported_as (Sql e)) memory in cc)
  | inr hindered ↦ hindered
]
by_refusal old new NotOurs caused failed = absurd cc
by_refusal old new BadRow caused failed = absurd cc

-- the cause of a refusal is that of the fault which reports it
pub cause_reported : (old new : State) (refusal : Refusal) (fault : OpenFault) → IsCaused old new refusal → fault ≡ reported_as refusal
    → HasCause old new fault
cause_reported old new refusal fault caused is = subst (HasCause old new) (sym is) (by_refusal old new refusal caused)

-- what a question of settled tables failed for, after the connection had answered
pub asked_later : {A : Type 0} (a b c : State) (P Q : Trees → Type 0) (r : Result A Error) → IsSettled a → IsUnchanged a b → Survives a b P
    → Survives b c Q → HasCleanDisk c → (IsFitting b.now → IfErr r (FailsFor b c)) → IfErr r (FailsFor a c)
asked_later a b c P Q r settled same one two clean fails =
    fails_later_if a b c P Q r one two clean
    (fails (subst (λ (d : Database). IsFitting d) (sym same.0.now_is) (settled.fitting same.0.was_open)))

-- a fault of a read, as an opening reports it
read_caused : (a c : State) (r : Result ℤ ReadFault) → IfSome (result_err r) (FailsToRead a c) → IfErr (as_version r) (IsCaused a c)
read_caused a c (Ok version) fails = tt
read_caused a c (Err (read.Sql e)) fails = fails
read_caused a c (Err read.BadRow) fails = tt

pub version_caused : (a b c : State) (P Q : Trees → Type 0) (r : Result ℤ ReadFault) (own : Bool) → own ≡ true → IsSettled a
    → IsJudged own a b → Survives a b P → Survives b c Q → HasCleanDisk c → (IsOurs b.now → Asks (result_err r) b c)
    → IfErr (as_version r) (IsCaused a c)
version_caused a b c P Q r own is settled judged one two clean asks =
    let ours = judged_ours a b settled (subst (λ b'. IsJudged b' a b) is judged) in
    read_caused a c r (fault_later a b c P Q (result_err r) one two clean (asks ours).cause)

-- ---- tables of the first version

-- a fault of a read, as the move reports it
fault_caused : (a b : State) (fault : ReadFault) → FailsToRead a b fault → IsCaused a b (refusal_of fault)
fault_caused a b (read.Sql e) fails = fails
fault_caused a b read.BadRow fails = tt

refused_as : {A : Type 0} (a c : State) (r : Result A Refusal) (refusal : Refusal) → r ≡ Err refusal → IsCaused a c refusal → IfErr r (IsCaused a c)
refused_as a c r refusal is caused = subst (λ r. IfErr r (IsCaused a c)) (sym is) caused

-- the rows to drop were not read
pub unread_caused : {A B : Type 0} {Holds : Kept → A → Type 0} {Broken : Kept → Type 0} (a b : State) (fault : ReadFault) (r : Result B Refusal)
    → r ≡ Err (refusal_of fault) → Answers Holds Broken a b (Err fault) → HasCleanDisk b → IsFirst a → IfErr r (IsCaused a b)
unread_caused a b fault r is answers clean first =
    refused_as a b r (refusal_of fault) is (fault_caused a b fault (answers.asks clean first.stands.ours).cause)

-- they were read, and the move was not committed
pub unmoved_caused : {A B : Type 0} {Holds : Kept → A → Type 0} {Broken : Kept → Type 0} {Q : Trees → Type 0} (a b c : State) (it : A) (e : Error)
    (r : Result B Refusal) → r ≡ Err (Sql e) → Answers Holds Broken a b (Ok it) → Survives b c Q → (HasCleanDisk c → IsOurs b.now → FailsFor b c e)
    → HasCleanDisk c → IsFirst a → IfErr r (IsCaused a c)
unmoved_caused a b c it e r is answers two fails clean first =
    let ours = first.stands.ours in
    let now = (answered_sees a b (answers.asks (clean_before b c two.clean clean) ours)).now in
    refused_as a c r (Sql e) is (fails_later a b c _ _ e answers.survives two clean (fails clean (subst IsOurs (sym now) ours)))
