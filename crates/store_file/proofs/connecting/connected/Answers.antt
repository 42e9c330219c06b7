use Rattle.std.proofs.Common.{◌≡◌, ℕ, ◌≤◌, ◌+◌, ◌∙◌, ap, arith, false, inl, inr, le_refl, rules, subst, sym}
use Rattle.std.proofs.lemmas.Result.{IfErr-weaker, IfOk-weaker}
use Rattle.sqlite_wal.specs.PageSize.{bytes_of, IsPageSize}
use Rattle.sqlite_wal.proofs.CleanLemmas.{both_clean}
use Rattle.sqlite_pool.specs.Opening.{IsBlankFile}
use Rattle.sqlite_pool.specs.Stored.{stored_size, used_size}
use Rattle.sqlite_trees.specs.declared.error.StoreError.TheVariants.{Io}
use Rattle.sqlite_store.specs.Unopened.{state_of}
use Rattle.sqlite.specs.Files.{image_of, faults_of, file_state, HoldsDatabase, AreFoundIn, IsNothing, IsTooLong}
use Rattle.sqlite.proofs.OpenLemmas.{pool_files}
use Rattle.sqlite.proofs.FileLemmas.{same_image, stored_used}
use Rattle.store_file.specs.Begun.{IsBlank}
use Rattle.store_file.proofs.BeginLemmas.{before, begins_then, clean_before, fails_then, leaves_then, probe_cause, still_blank}
use Rattle.store_file.proofs.connecting.connected.Goals as goal

pub returns-in-Ok-clause-found : goal.returns-in-Ok-clause-found
returns-in-Ok-clause-found g c =
    let files = c.args.files in
    let fresh = c.in-Ok.fresh in
    let read = c.probe_blank.ensures in
    let size : bytes_of c.unwrap-size.result ≡ 512 = search rules in
    let is_blank = λ (n : ℕ). IsBlankFile (used_size n false) (image_of g.D.Disk files) in
    IfOk-weaker c.begun.result _ _ (λ it begun clean.
    let made = begun clean in
    let probed = c.in-Ok-true.ensures.ok (clean_before _ _ read.log read.db fresh c.in-Ok.ensures.files made.0) in
    inr (subst is_blank size (probed.0 c.in-Ok-true.field-0-test), made.1)) c.begun.ensures.empty

pub returns-in-Ok-false-clause-found : goal.returns-in-Ok-false-clause-found
returns-in-Ok-false-clause-found g c =
    let read = c.probe_blank.ensures in
    let same = same_image read.log read.db in
    IfOk-weaker c.open_files.result _ _ (λ it found clean.
    let finds = found clean in
    inl (record {
      honest = both_clean _ _ _ _ read.log.clean read.db.clean finds.honest;
      holds = λ db held. finds.holds db (subst (λ image. HoldsDatabase image db) (sym same) held);
      reads = subst (λ image. AreFoundIn image (file_state it).committed.trees) same finds.reads;
    })) c.open_files.ensures.found

pub returns-in-Ok-false-clause-cause : goal.returns-in-Ok-false-clause-cause
returns-in-Ok-false-clause-cause g c =
    let read = c.probe_blank.ensures in
    let same = same_image read.log read.db in
    IfErr-weaker c.open_files.result _ _ (λ e fails clean. (
      _,
      fails_then _ _ _ _ _ _ _ _ e.0 read.counts (λ limit. limit) (λ w. elim w [
        | inl held ↦ inl (held.0, subst (λ image. HoldsDatabase image held.0) (sym same) held.1)
        | inr nothing ↦ inr (subst IsNothing (sym same) nothing)
      ]) (fails clean),
    )) c.open_files.ensures.cause

pub returns-in-Ok-false-clause-unharmed : goal.returns-in-Ok-false-clause-unharmed
returns-in-Ok-false-clause-unharmed g c =
    let read = c.probe_blank.ensures in
    let unharmed = c.open_files.ensures.unharmed in
    IfErr-weaker c.open_files.result _ _ (λ e leaves clean. inl (leaves_then _ _ read.log read.db e.1 (leaves clean))) unharmed

pub returns-in-Ok-clause-cause : goal.returns-in-Ok-clause-cause
returns-in-Ok-clause-cause g c =
    let files = c.args.files in
    let fresh = c.in-Ok.fresh in
    let read = c.probe_blank.ensures in
    let size : bytes_of c.unwrap-size.result ≡ 512 = search rules in
    let counts : faults_of g.D.Disk files ≤ (state_of fresh).faults =
    omega (arith, (pool_files fresh.pool).0, ap (λ f. g.D.Disk.faults f.0 + g.D.Disk.faults f.1) c.in-Ok.ensures.files, read.counts) in
    let is_blank = λ (n : ℕ). IsBlankFile (used_size n false) (image_of g.D.Disk files) in
    let still = still_blank _ _ read.log read.db fresh c.in-Ok.ensures.files (c.in-Ok.ensures.size ∙ size) c.in-Ok.ensures.none in
    IfErr-weaker c.begun.result _ _ (λ e fails clean.
    let probed = c.in-Ok-true.ensures.ok (clean_before _ _ read.log read.db fresh c.in-Ok.ensures.files (fails clean).0) in
    let blank : IsBlank (image_of g.D.Disk files) = subst is_blank size (probed.0 c.in-Ok-true.field-0-test) in
    (Io, fails_then Io _ _ _ _ _ _ _ e.0 counts (λ limit. limit) (λ _. still blank) (fails clean).1)) c.begun.ensures.cause

pub returns-in-Ok-clause-unharmed : goal.returns-in-Ok-clause-unharmed
returns-in-Ok-clause-unharmed g c =
    let files = c.args.files in
    let fresh = c.in-Ok.fresh in
    let read = c.probe_blank.ensures in
    let given = c.unwrap-size.result in
    let size : bytes_of given ≡ 512 = search rules in
    let is_size = λ (n : ℕ). IsPageSize (stored_size (used_size n false)) in
    let valid : IsPageSize (stored_size 512) =
    subst is_size size (rw (stored_used given false) (given.smallest, given.largest, given.power, given.aligned)) in
    let is_blank = λ (n : ℕ). IsBlankFile (used_size n false) (image_of g.D.Disk files) in
    IfErr-weaker c.begun.result _ _ (λ e leaves clean.
    let probed = c.in-Ok-true.ensures.ok (clean_before _ _ read.log read.db fresh c.in-Ok.ensures.files (leaves clean).0) in
    let blank : IsBlank (image_of g.D.Disk files) = subst is_blank size (probed.0 c.in-Ok-true.field-0-test) in
    let begun = begins_then _ _ read.log read.db fresh c.in-Ok.ensures.files (c.in-Ok.ensures.size ∙ size) c.in-Ok.ensures.none in
    inr (blank, begun valid blank e.1 (leaves clean).1)) c.begun.ensures.unharmed

pub returns-in-Err-clause-cause : goal.returns-in-Err-clause-cause
returns-in-Err-clause-cause g c clean =
    let read = c.probe_blank.ensures in
    let same = same_image read.log read.db in (
      Io,
      rw c.probe_error.ensures.value (fails_then Io _ _ _ _ _ _ _ _ (le_refl _) (subst IsTooLong (sym same)) (λ _. tt)
          (probe_cause _ _ _ _ c.in-Err.error (c.in-Err.ensures.cause clean))),
    )

pub returns-in-Err-clause-unharmed : goal.returns-in-Err-clause-unharmed
returns-in-Err-clause-unharmed g c clean = inl (before _ _ c.probe_blank.ensures.log c.probe_blank.ensures.db)
