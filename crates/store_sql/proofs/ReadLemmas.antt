-- Reads one after the other.
use Rattle.std.proofs.Common.{◌≡◌, ◌≤◌, inl, inr, refl, sym, ap, ◌∙◌, subst, arith, IsTrue, true≢false, Result, Ok, Err, Some, None, IfErr, IfOk, IfSome, Option}
use Rattle.std.specs.Result.{result_err}
use Rattle.sqlite_trees.specs.Tree.{Trees}
use Rattle.sqlite_trees.specs.View.{doubt}
use Rattle.sqlite.specs.State.{HasCleanDisk, IsUnchanged, State, Survives}
use Rattle.sqlite.proofs.StateLemmas.{survives_then}
use Rattle.store_sql_rows.specs.Looking.{Reads}
use Rattle.store_sql_rows.specs.Ours.{IsOurs, kept_in}
use Rattle.store_sql_rows.specs.Stored.{Kept}
use Rattle.store_sql_rows.proofs.FailLemmas.{fails_later}
use Rattle.store_sql.specs.Leaving.{Answers, Asks, FailsToRead, HasRead, IsOwnFault, Sees, out_of_memory}
use Rattle.store_sql_rows.specs.declared.read_fault.ReadFault.{ReadFault}
use Rattle.store_sql_rows.specs.declared.read_fault.ReadFault.TheVariants.{BadRow, Sql}

sees_unchanged : (old new : State) → IsUnchanged old new → Sees old new
sees_unchanged old new same =
    record { now = same.0.now_is; committed = same.0.committed_is; is_open = same.0.is_open ∙ sym same.0.was_open }

sees_then : (a b c : State) → Sees a b → Sees b c → Sees a c
sees_then a b c one two = record { now = two.now ∙ one.now; committed = two.committed ∙ one.committed; is_open = two.is_open ∙ one.is_open }

pub clean_before : (old new : State) → doubt old.is_clean ≤ doubt new.is_clean → HasCleanDisk new → HasCleanDisk old
clean_before old new less clean = omega (arith, less, clean)

-- a fault's cause, after calls that only kept what there was
pub fault_later : (a b c : State) (P Q : Trees → Type 0) (fault : Option ReadFault) → Survives a b P → Survives b c Q → HasCleanDisk c
    → IfSome fault (FailsToRead b c) → IfSome fault (FailsToRead a c)
fault_later a b c P Q None one two clean fails = tt
fault_later a b c P Q (Some BadRow) one two clean fails = tt
fault_later a b c P Q (Some (Sql e)) one two clean fails = fails_later a b c P Q e one two clean fails

-- a fault of its own has its cause
pub own_cause : {A : Type 0} (old new : State) (r : Result A ReadFault) → IfErr r IsOwnFault → IfSome (result_err r) (FailsToRead old new)
own_cause old new (Ok x) own = tt
own_cause old new (Err fault) (inl bad) = subst (FailsToRead old new) (sym bad) tt
own_cause old new (Err fault) (inr memory) = subst (FailsToRead old new) (sym memory) (record { cause = inl refl })

pub bad_only : {A : Type 0} (r : Result A ReadFault) → IfErr r (λ fault. fault ≡ BadRow) → IfErr r IsOwnFault
bad_only (Ok x) bad = tt
bad_only (Err fault) bad = inl bad

pub read_none : (Known : Kept → Type 0) (s : State) → (HasCleanDisk s → IsOurs s.now → Known (kept_in s.now.trees)) → HasRead Known s s
read_none Known s known = record {
  mode = λ m. m;
  sees = λ _ _. record { now = refl; committed = refl; is_open = refl };
  known = known;
  survives =
      record {
        clean = omega arith;
        shield = λ x. x;
        counts = omega arith;
        limit = refl;
        closes = λ _ is. inl is;
        crash = λ _ db left. inl left;
      };
}

-- less is known
pub read_as : {Known More : Kept → Type 0} {a b : State} → HasRead Known a b
    → (IsOurs a.now → Known (kept_in a.now.trees) → More (kept_in a.now.trees)) → HasRead More a b
read_as one more =
    record { mode = one.mode; sees = one.sees; known = λ clean ours. more ours (one.known clean ours); survives = one.survives }

-- a query that was answered
pub read_found : {A : Type 0} {Found : Kept → A → Type 0} {a b : State} {x : A} → Reads Found a b (Ok x) → HasRead (λ kept. Found kept x) a b
read_found {a} {b} one = record {
  mode = one.leaves.mode;
  sees = λ clean ours. sees_unchanged a b (one.leaves.same clean ours);
  known = one.found;
  survives = one.leaves.survives;
}

module _ {A : Type 0} {Known : Kept → Type 0} {Tells : Kept → A → Type 0} {Worse : Kept → Type 0} {a b c : State} (one : HasRead Known a b) where
  clean_mid : {r : Result A ReadFault} → Answers Tells Worse b c r → HasCleanDisk c → HasCleanDisk b
  clean_mid two = clean_before b c two.survives.clean

  saw : {r : Result A ReadFault} → Answers Tells Worse b c r → HasCleanDisk c → IsOurs a.now → Sees a b
  saw two clean ours = one.sees (clean_mid two clean) ours

  ours_mid : {r : Result A ReadFault} → Answers Tells Worse b c r → HasCleanDisk c → IsOurs a.now → IsOurs b.now
  ours_mid two clean ours = subst IsOurs (sym (saw two clean ours).now) ours

  knew : {r : Result A ReadFault} → Answers Tells Worse b c r → HasCleanDisk c → IsOurs a.now → Known (kept_in a.now.trees)
  knew two clean ours = one.known (clean_mid two clean) ours

  survives_both : {r : Result A ReadFault} → Answers Tells Worse b c r → Survives a c (λ _. IsOurs a.now → ⊥)
  survives_both two =
      survives_then a b c (λ _. IsOurs a.now → ⊥) (λ _. IsOurs b.now → ⊥) (λ _. IsOurs a.now → ⊥) (λ _ db never. never)
      (λ clean db never ours. never (ours_mid two clean ours)) one.survives two.survives

  asks_both : {r : Result A ReadFault} → Answers Tells Worse b c r → HasCleanDisk c → IsOurs a.now → Asks (result_err r) a c
  asks_both {r} two clean ours =
      let before = saw two clean ours in
      let asked = two.asks clean (ours_mid two clean ours) in
      record {
        rests = record {
          was_open = λ stands. subst IsTrue before.is_open (asked.rests.was_open stands);
          same =
              λ alike stands. let left =
              asked.rests.same (before.now ∙ alike ∙ sym before.committed) stands in (left.0 ∙ before.now, left.1 ∙ before.committed);
        };
        same = elim asked.same [ inl refused ↦ inl refused | inr sees ↦ inr (sees_then a b c before sees) ];
        cause = fault_later a b c _ _ (result_err r) one.survives two.survives clean asked.cause;
      }

  value_both : {r : Result A ReadFault} → Answers Tells Worse b c r → HasCleanDisk c → IsOurs a.now → IfOk r (Tells (kept_in a.now.trees))
  value_both {r} two clean ours =
      subst (λ d. IfOk r (Tells (kept_in d.trees))) (saw two clean ours).now (two.value clean (ours_mid two clean ours))

  bad_both : {r : Result A ReadFault} → Answers Tells Worse b c r → HasCleanDisk c → IsOurs a.now → r ≡ Err BadRow → Worse (kept_in a.now.trees)
  bad_both two clean ours is =
      subst (λ d. Worse (kept_in d.trees)) (saw two clean ours).now (two.bad clean (ours_mid two clean ours) is)

  -- another read that was answered
  pub read_then : {x : A} → Answers Tells Worse b c (Ok x) → HasRead (λ kept. Known kept × Tells kept x) a c
  read_then two = record {
    mode = λ m. two.mode (one.mode m);
    sees = λ clean ours. elim (two.asks clean (ours_mid two clean ours)).same [
      | inl refused ↦ absurd (true≢false (sym refused))
      | inr same ↦ sees_then a b c (saw two clean ours) same
    ];
    known = λ clean ours. (knew two clean ours, value_both two clean ours);
    survives = survives_both two;
  }

  -- another read, whatever it tells
  pub answers_then : {Holds : Kept → A → Type 0} {Broken : Kept → Type 0} {r : Result A ReadFault} → Answers Tells Worse b c r
      → (IsOurs a.now → Known (kept_in a.now.trees) → IfOk r (Tells (kept_in a.now.trees)) → IfOk r (Holds (kept_in a.now.trees)))
      → (IsOurs a.now → Known (kept_in a.now.trees) → Worse (kept_in a.now.trees) → Broken (kept_in a.now.trees)) → Answers Holds Broken a c r
  answers_then two holds broken = record {
    mode = λ m. two.mode (one.mode m);
    asks = asks_both two;
    value = λ clean ours. holds ours (knew two clean ours) (value_both two clean ours);
    bad = λ clean ours is. broken ours (knew two clean ours) (bad_both two clean ours is);
    survives = survives_both two;
  }

  -- another read that was refused
  pub refused_then : {B : Type 0} {Holds : Kept → B → Type 0} {Broken : Kept → Type 0} {fault : ReadFault} {result : Result B ReadFault}
      → Answers Tells Worse b c (Err fault)
      → (IsOurs a.now → Known (kept_in a.now.trees) → Worse (kept_in a.now.trees) → Broken (kept_in a.now.trees))
      → result ≡ Err fault → Answers Holds Broken a c result
  refused_then {Holds} {Broken} two broken is_fault = subst (Answers Holds Broken a c) (sym is_fault) (record {
    mode = λ m. two.mode (one.mode m);
    asks = asks_both two;
    value = λ _ _. tt;
    bad = λ clean ours is. broken ours (knew two clean ours) (bad_both two clean ours (let same = is in cc));
    survives = survives_both two;
  })

-- reads that were answered leave what a fault of another kind leaves
pub asks_reported : {Known : Kept → Type 0} {a b : State} → HasRead Known a b → (fault : Option ReadFault) → IfSome fault (FailsToRead a b)
    → HasCleanDisk b → IsOurs a.now → Asks fault a b
asks_reported one fault cause clean ours =
    let saw = one.sees clean ours in
    record {
      rests = record { was_open = λ stands. subst IsTrue saw.is_open stands; same = λ alike stands. (saw.now, saw.committed) };
      same = inr saw;
      cause = cause;
    }

module _ {A : Type 0} {Holds : Kept → A → Type 0} {Broken : Kept → Type 0} {Known : Kept → Type 0} {a b : State} (one : HasRead Known a b) where
  -- what was read is answered
  pub answers_ok : {x : A} → (IsOurs a.now → Known (kept_in a.now.trees) → Holds (kept_in a.now.trees) x) → Answers Holds Broken a b (Ok x)
  answers_ok holds = record {
    mode = one.mode;
    asks = asks_reported one None tt;
    value = λ clean ours. holds ours (one.known clean ours);
    bad = λ clean ours is. absurd (let same = is in cc);
    survives = one.survives;
  }

  -- what was read cannot stand
  pub answers_bad : (IsOurs a.now → Known (kept_in a.now.trees) → Broken (kept_in a.now.trees)) → Answers Holds Broken a b (Err BadRow)
  answers_bad broken = record {
    mode = one.mode;
    asks = asks_reported one (Some BadRow) tt;
    value = λ _ _. tt;
    bad = λ clean ours _. broken ours (one.known clean ours);
    survives = one.survives;
  }

  -- what is made of it
  pub answers_made : {r : Result A ReadFault} → IfErr r IsOwnFault → (IsOurs a.now → Known (kept_in a.now.trees) → IfOk r (Holds (kept_in a.now.trees)))
      → (IsOurs a.now → Known (kept_in a.now.trees) → r ≡ Err BadRow → Broken (kept_in a.now.trees)) → Answers Holds Broken a b r
  answers_made {r} own holds broken = record {
    mode = one.mode;
    asks = asks_reported one (result_err r) (own_cause a b r own);
    value = λ clean ours. holds ours (one.known clean ours);
    bad = λ clean ours is. broken ours (one.known clean ours) is;
    survives = one.survives;
  }

  -- memory was refused after it
  pub answers_failed : {fault : ReadFault} {result : Result A ReadFault} → fault ≡ out_of_memory → result ≡ Err fault
      → Answers Holds Broken a b result
  answers_failed memory is_fault =
      subst (Answers Holds Broken a b) (sym (is_fault ∙ ap Err memory))
      (answers_made (inr refl) (λ _ _. tt) (λ _ _ is. absurd (let same = is in cc)))

-- one read, of which less is said
pub answers_as : {A : Type 0} {Tells Holds : Kept → A → Type 0} {Worse Broken : Kept → Type 0} {a b : State} {r : Result A ReadFault}
    → Answers Tells Worse a b r
    → (IsOurs a.now → IfOk r (Tells (kept_in a.now.trees)) → IfOk r (Holds (kept_in a.now.trees)))
    → (IsOurs a.now → Worse (kept_in a.now.trees) → Broken (kept_in a.now.trees)) → Answers Holds Broken a b r
answers_as one holds broken = record {
  mode = one.mode;
  asks = one.asks;
  value = λ clean ours. holds ours (one.value clean ours);
  bad = λ clean ours is. broken ours (one.bad clean ours is);
  survives = one.survives;
}

-- the first read is answered, or refused
pub read_first : {A : Type 0} {Tells : Kept → A → Type 0} {Worse : Kept → Type 0} {a b : State} {x : A} → Answers Tells Worse a b (Ok x)
    → HasRead (λ kept. Tells kept x) a b
read_first one = record {
  mode = one.mode;
  sees = λ clean ours. elim (one.asks clean ours).same [ inl refused ↦ absurd (true≢false (sym refused)) | inr same ↦ same ];
  known = one.value;
  survives = one.survives;
}

pub refused_first : {A B : Type 0} {Tells : Kept → A → Type 0} {Holds : Kept → B → Type 0} {Worse Broken : Kept → Type 0} {a b : State}
    {fault : ReadFault} {result : Result B ReadFault} → Answers Tells Worse a b (Err fault)
    → (IsOurs a.now → Worse (kept_in a.now.trees) → Broken (kept_in a.now.trees)) → result ≡ Err fault → Answers Holds Broken a b result
refused_first {Holds} {Broken} {a} {b} one broken is_fault = subst (Answers Holds Broken a b) (sym is_fault) (record {
  mode = one.mode;
  asks = one.asks;
  value = λ _ _. tt;
  bad = λ clean ours is. broken ours (one.bad clean ours (let same = is in cc));
  survives = one.survives;
})

-- what is made of reads, where each row that was asked for can stand
pub answers_sound : {A : Type 0} {Holds : Kept → A → Type 0} {Sound Broken Known : Kept → Type 0} {a b : State} {r : Result A ReadFault}
    → HasRead Known a b → IfErr r IsOwnFault → (IsOurs a.now → Known (kept_in a.now.trees) → IfOk r (Holds (kept_in a.now.trees)))
    → (IsOurs a.now → Known (kept_in a.now.trees) → IfOk r (λ _. Sound (kept_in a.now.trees)))
    → (IsOurs a.now → Known (kept_in a.now.trees) → r ≡ Err BadRow → Broken (kept_in a.now.trees))
    → Answers (λ kept it. Holds kept it × Sound kept) Broken a b r
answers_sound {A} {Holds} {Sound} {a} {r} one own holds sound broken =
    answers_made one own (λ ours known. both r (Holds (kept_in a.now.trees)) (Sound (kept_in a.now.trees)) (holds ours known) (sound ours known)) broken
  where
    both : (r : Result A ReadFault) (P : A → Type 0) (Q : Type 0) → IfOk r P → IfOk r (λ _. Q) → IfOk r (λ x. P x × Q)
    both (Ok x) P Q p q = (p, q)
    both (Err fault) P Q p q = tt
