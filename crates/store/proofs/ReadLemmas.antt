-- Reads one after the other, and a commit behind them.
use Rattle.std.proofs.Common.{◌≡◌, ◌⊎◌, inl, inr, Bool, true, false, Option, Some, None, refl, sym, ap, ◌∙◌, subst}
use Rattle.std.specs.Bool.{IsTrue}
use Rattle.store.specs.declared.change.Change.{Change}
use Rattle.store.specs.declared.fault.StoreFault.{StoreFault}
use Rattle.store.specs.declared.fault.StoreFault.TheVariants.{NoMemory, Failed, Shut, BadRow}
use Rattle.store.specs.Standing.{ChangesOnce, Commits, Content, Goes, HasRisen, IsOpen, Makes, Reads, Standing}

not_shut : None ≡ Some Shut → ⊥
not_shut e = cc

not_failed : None ≡ Some Failed → ⊥
not_failed e = cc

is_open : (test : Bool) → (IsTrue test → ⊥) → test ≡ false
is_open true none = absurd (none refl)
is_open false none = refl

-- a call that tells no fault shows that the store was open, and leaves it open
pub was_open : (fault : Option StoreFault) (old new : Standing) → Goes fault old new → (fault ≡ Some Shut → ⊥) → old.is_shut ≡ false
was_open fault old new goes reported = is_open old.is_shut (λ shut. reported (goes.shut.1 shut))

pub stays_open : (old new : Standing) → Goes None old new → new.is_shut ≡ false
stays_open old new goes = goes.goes_on not_failed ∙ was_open None old new goes not_shut

is_not : false ≡ true → ⊥
is_not e = cc

-- a call behind a read
Goes-after : (fault : Option StoreFault) (first second third : Standing) → Goes None first second → Goes fault second third
    → Goes fault first third
Goes-after fault first second third before after = record {
  honest = λ honest. before.honest (after.honest honest);
  shut = (
    (λ reported. absurd (is_not (sym (stays_open first second before) ∙ after.shut.0 reported))),
    (λ shut. absurd (not_shut (before.shut.1 shut))),
  );
  untouched = λ honest shut. absurd (not_shut (before.shut.1 shut));
  goes_on = λ reported. after.goes_on reported ∙ before.goes_on not_failed;
  steady = λ reported. after.steady reported ∙ before.steady not_failed;
  failed =
      λ reported. let rises = after.failed reported in (rises.0, subst (λ count. HasRisen count third.failures) (before.steady not_failed) rises.1);
  settled = after.settled;
}

-- a read behind a read
pub Reads-then : (fault : Option StoreFault) (first second third : Standing) → Reads None first second → Reads fault second third
    → Reads fault first third
Reads-then fault first second third before after = record {
  goes = Goes-after fault first second third before.goes after.goes;
  kept = λ honest reported. after.kept honest reported ∙ before.kept (after.goes.honest honest) not_failed;
  rows = λ honest reported. after.rows honest reported ∙ before.rows (after.goes.honest honest) not_failed;
  left = λ honest was content left.
      after.left honest (stays_open first second before.goes) content left ∙ before.kept (after.goes.honest honest) not_failed;
  bad_row =
      λ honest reported. sym (ap (λ (content : Content). content.is_sound) (before.kept (after.goes.honest honest) not_failed))
      ∙ after.bad_row honest reported;
}

-- a commit behind a read
pub Commits-then : (change : Change) (fault : Option StoreFault) (first second third : Standing) → Reads None first second
    → Commits change fault second third → Commits change fault first third
Commits-then change fault first second third before after = record {
  goes = Goes-after fault first second third before.goes after.goes;
  made =
      λ honest none. subst (λ content. Makes change content third.content) (before.kept (after.goes.honest honest) not_failed)
      (after.made honest none);
  unchanged = λ honest goes_on reported is. after.unchanged honest goes_on reported is ∙ before.kept (after.goes.honest honest) not_failed;
  left = λ honest was content left.
      subst (λ old. (content ≡ old) ⊎ Makes change old content) (before.kept (after.goes.honest honest) not_failed)
      (after.left honest (stays_open first second before.goes) content left);
  never_bad = after.never_bad;
  stands = λ honest going asked could.
      after.stands honest going asked (ap (λ rows. rows asked) (before.rows (after.goes.honest honest) not_failed) ∙ could);
}

-- what is read before a read is what stands after it
pub kept-read : (first second : Standing) → Reads None first second → second.is_honest → second.content ≡ first.content
kept-read first second reads honest = reads.kept honest not_failed

-- after a read that tells no fault a store is open
pub IsOpen-read : (first second : Standing) → Reads None first second → IsOpen second
IsOpen-read first second reads = record {
  goes = record {
    honest = λ honest. honest;
    shut = ((λ reported. absurd (not_shut reported)), (λ shut. absurd (is_not (sym (stays_open first second reads.goes) ∙ shut))));
    untouched = λ honest shut. record { content = refl; leaves = λ content left. left };
    goes_on = λ reported. refl;
    steady = λ reported. refl;
    failed = λ reported. absurd (not_failed reported);
    settled = reads.goes.settled;
  };
  kept = λ honest reported. refl;
  rows = λ honest reported. refl;
  left = λ honest was content left. reads.goes.settled honest was content left;
  bad_row = λ honest reported. absurd (not_bad reported);
}
  where
    not_bad : None ≡ Some BadRow → ⊥
    not_bad e = cc

-- a call that did nothing but read, and then tells a fault of its own
pub Goes-reported : (fault : StoreFault) (first second : Standing) → Goes None first second → (Some fault ≡ Some Shut → ⊥)
    → (Some fault ≡ Some Failed → ⊥)
    → Goes (Some fault) first second
Goes-reported fault first second before no_shut no_failure = record {
  honest = before.honest;
  shut = ((λ reported. absurd (no_shut reported)), (λ shut. absurd (not_shut (before.shut.1 shut))));
  untouched = before.untouched;
  goes_on = λ reported. before.goes_on not_failed;
  steady = λ reported. before.steady not_failed;
  failed = λ reported. absurd (no_failure reported);
  settled = before.settled;
}

-- a call that fails for want of memory, where nothing was done but reads
pub Reads-reported : (fault : StoreFault) (first second : Standing) → Reads None first second → (Some fault ≡ Some NoMemory)
    → Reads (Some fault) first second
Reads-reported fault first second before is = record {
  goes = Goes-reported fault first second before.goes (λ reported. memory_not_shut (sym is ∙ reported)) (λ reported. memory_not_failed (sym is ∙ reported));
  kept = λ honest reported. before.kept honest not_failed;
  rows = λ honest reported. before.rows honest not_failed;
  left = before.left;
  bad_row = λ honest reported. absurd (memory_not_bad (sym is ∙ reported));
}
  where
    memory_not_shut : Some NoMemory ≡ Some Shut → ⊥
    memory_not_shut e = cc

    memory_not_failed : Some NoMemory ≡ Some Failed → ⊥
    memory_not_failed e = cc

    memory_not_bad : Some NoMemory ≡ Some BadRow → ⊥
    memory_not_bad e = cc

-- ---- a call that makes one change or none

still_open : (shut : Bool) → shut ≡ false → shut ≡ true → ⊥
still_open shut going failed = is_not (sym going ∙ failed)

-- a read makes none, whatever it tells
pub changes_once_read : (fault : Option StoreFault) (old new : Standing) → Reads fault old new → ChangesOnce fault old new
changes_once_read fault old new reads = record {
  made = λ honest none. inl (reads.kept honest (λ failed. not_failed (sym none ∙ failed)));
  unchanged = λ honest going reported is. reads.kept honest (λ failed. still_open new.is_shut going (reads.goes.failed failed).0);
  left = λ honest was content left. inl (reads.left honest was content left);
}

-- reads were answered, and nothing else was asked, whatever is reported then
pub changes_once_reported : (fault : Option StoreFault) (old new : Standing) → Reads None old new → ChangesOnce fault old new
changes_once_reported fault old new reads = record {
  made = λ honest none. inl (reads.kept honest not_failed);
  unchanged = λ honest going reported is. reads.kept honest not_failed;
  left = λ honest was content left. inl (reads.left honest was content left);
}

-- a commit behind reads makes its change or none
pub changes_once_commit : (change : Change) (fault : Option StoreFault) (first second third : Standing) → Reads None first second
    → Commits change fault second third → ChangesOnce fault first third
changes_once_commit change fault first second third reads commits =
    let whole = Commits-then change fault first second third reads commits in
    record {
      made = λ honest none. inr (change, whole.made honest none);
      unchanged = whole.unchanged;
      left = λ honest was content left. elim (whole.left honest was content left) [
        | inl same ↦ inl same
        | inr makes ↦ inr (change, makes)
      ];
    }

-- the same behind a read
pub changes_once_then : (fault : Option StoreFault) (first second third : Standing) → Reads None first second
    → (third.is_honest → second.is_honest) → ChangesOnce fault second third → ChangesOnce fault first third
changes_once_then fault first second third reads was_honest after =
    let kept : third.is_honest → second.content ≡ first.content = λ honest. reads.kept (was_honest honest) not_failed in
    record {
      made = λ honest none. subst (λ old. (third.content ≡ old) ⊎ ((change : Change) × Makes change old third.content)) (kept honest)
          (after.made honest none);
      unchanged = λ honest going reported is. after.unchanged honest going reported is ∙ kept honest;
      left = λ honest was content left. subst (λ old. (content ≡ old) ⊎ ((change : Change) × Makes change old content)) (kept honest)
          (after.left honest (stays_open first second reads.goes) content left);
    }
