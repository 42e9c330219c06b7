-- What a beginning leaves on its way, and what a probe says and leaves alone.
use Rattle.std.proofs.Common.{◌≡◌, ◌<◌, ◌≤◌, ◌^◌, ◌∙◌, ◌⊎◌, [], ℕ, IsTrue, ap, arith, inl, inr, refl, subst, subst₂, sym, true}
use Rattle.std.proofs.Math.Logic.{∥∥₁_map}
use Rattle.std.specs.Prelude.{⊤}
use Rattle.sqlite_disk.specs.declared.Disk as disk
use Rattle.sqlite_disk.specs.declared.Files.{Files}
use Rattle.sqlite_wal.specs.Files as log_files
use Rattle.sqlite_wal.specs.Files.{outcomes, seen_image}
use Rattle.sqlite_wal.specs.PageSize.{IsPageSize}
use Rattle.sqlite_wal.specs.Reads.{are_clean, AreClean, OnlyReads}
use Rattle.sqlite_wal.specs.Recovery.{Image, AreWhole, IsLogFor}
use Rattle.sqlite_wal.specs.Outcome.{HasCause, OnlyIf}
use Rattle.sqlite_wal.specs.declared.error.Error as wal
use Rattle.sqlite_wal.specs.declared.error.Error.TheVariants.{Io, OutOfMemory, Closed, NoSuchPage, Full, Corrupt, Exists}
use Rattle.sqlite_pages.specs.PageMap.{PageMap}
use Rattle.sqlite_pool.specs.File.{version_in, in_use}
use Rattle.sqlite_pool.specs.Opening.{IsBlankFile, IsNew}
use Rattle.sqlite_pool.specs.Stored.{Recovers, stored_size, StandsAs, IsUnreadable}
use Rattle.sqlite_pool.specs.StoredLaws.{trimmed_whole}
use Rattle.sqlite_pool.proofs.ResealLemmas.{adopts_of}
use Rattle.sqlite_trees.specs.Tree.{Trees}
use Rattle.sqlite_trees.specs.declared.error.StoreError.{StoreError}
use Rattle.sqlite_store.specs.Db.{trees_in}
use Rattle.sqlite_store.specs.Listing.{all_trees, file_trees, IsOurs}
use Rattle.sqlite_store.specs.Listed.{catalog_rows}
use Rattle.sqlite_store.specs.Opening.{IsFresh}
use Rattle.sqlite_store.specs.declared.store.open.Unopened.{Unopened}
use Rattle.sqlite_store.specs.Unopened.{files_of, state_of, wanted_by}
use Rattle.sqlite_store.specs.Unopened as unopened
use Rattle.sqlite_store.proofs.BuildLemmas.{new_is_empty}
use Rattle.sqlite_store.proofs.ListingLemmas.{past_version, named_tree}
use Rattle.sqlite_store.proofs.StoreLemmas.{pair}
use Rattle.sqlite.specs.declared.file.Leftover.{Leftover}
use Rattle.sqlite.specs.declared.file.Leftover.TheVariants as left
use Rattle.sqlite.specs.Files.{image_of, AreFoundIn, BeginsWell, HoldsDatabase, IsEmpty, IsKept, IsNothing, IsTooLong, IsUnderWay}
use Rattle.sqlite.specs.Files.{LeavesFiles, NamesSize, SaysSums}
use Rattle.sqlite.specs.declared.error.Error.{Error}
use Rattle.sqlite.specs.Opening.{probed, FailsAs, FailsFor}
use Rattle.sqlite.proofs.FileLemmas.{same_image}
use Rattle.sqlite.proofs.ListingLemmas.{empty_is_sound}
use Rattle.sqlite.proofs.OpenLemmas.{pool_files}
use Rattle.store_file.specs.Begun.{IsBlank, LeavesBeginning, LeavesMade}

empty_database : (image : Image) (pages : PageMap) → IsPageSize (stored_size 512) → Recovers 512 image pages → IsOurs 512 true [] pages
    → (db : Trees) × HoldsDatabase image db × IsEmpty db
unfolding trees_in
empty_database image pages valid found ours =
    let db = file_trees 512 [] pages in
    let used = in_use 512 pages in
    let unlisted = catalog_rows 512 [] used in
    let rows : (tree : ℕ) → tree < 2 ^ 32 → db tree ≡ [] =
    λ tree low. past_version tree low (all_trees 512 [] used) (version_in pages) ∙ named_tree tree low 512 [] used in (
      db,
      (
        512,
        valid,
        record {
          pages = pages;
          wanted = [];
          schema = _;
          found = adopts_of 512 image pages found;
          ours = ours;
          reads = refl;
          sound = empty_is_sound db unlisted;
        },
      ),
      (rows, unlisted),
    )

-- what a stop leaves of a beginning is for the next one to take
pub on_the_way : (image : Image) → IsPageSize (stored_size 512)
    → IsBlank image ⊎ ((pages : PageMap) × Recovers 512 image pages × (IsNew 512 pages ⊎ ∥ IsFresh 512 [] pages ∥₁))
    → IsBlank image ⊎ ∥ ((db : Trees) × HoldsDatabase image db × IsEmpty db) ∥₁
on_the_way image valid (inl blank) = inl blank
on_the_way image valid (inr made) =
    inr (elim made.2 [
      | inl new ↦
          let whole : AreWhole 512 made.0 = subst (AreWhole 512) made.1.shows (trimmed_whole 512 made.1.stored made.1.whole) in
          let empty = new_is_empty 512 made.0 whole new in
          let ours : IsOurs 512 true [] made.0 =
          record { file = empty.0; numbered = λ _. record { listed = empty.1; spaced = refl; ordered = refl } } in
          ∣ empty_database image made.0 valid made.1 ours ∣₁
      | inr fresh ↦ ∥∥₁_map fresh (λ it. empty_database image made.0 valid made.1 it.0)
    ])

-- a probe fails for memory, for a fault or for the length of the log, and refuses nothing
pub probe_cause : (old new size : ℕ) (image : Image) (error : wal.Error)
    → HasCause old new (OnlyIf Full (IsLogFor size image.log × log_files.IsHuge size image)) error
    → FailsFor old new (IsTooLong image) ⊤ (probed error)
probe_cause old new size image (Io x) cause = inr (inr (inl (refl, cause)))
probe_cause old new size image OutOfMemory cause = inl refl
probe_cause old new size image Full cause =
    inr (inr (inr (refl, (size, (λ _. sym cause.1.0.1, λ ignored. absurd (cause.1.0.0 ignored)), cause.1.1))))
probe_cause old new size image Corrupt cause = let e = cause.0 in absurd (cc)
probe_cause old new size image Closed cause = let e = cause.0 in absurd (cc)
probe_cause old new size image NoSuchPage cause = let e = cause.0 in absurd (cc)
probe_cause old new size image Exists cause = let e = cause.0 in absurd (cc)

-- a failure that began later, with another limit, for files of which more is asked
module _ (kind : StoreError) (earlier old new : ℕ) (Limit Limit' Wanted Wanted' : Type 0) where
  pub fails_then : (error : Error) → earlier ≤ old → (Limit → Limit') → (Wanted' → Wanted)
      → FailsAs kind old new Limit Wanted error → FailsAs kind earlier new Limit' Wanted' error
  fails_then error counts limit wanted (inl memory) = inl memory
  fails_then error counts limit wanted (inr (inl refused)) = inr (inl (refused.0, λ w. refused.1 (wanted w)))
  fails_then error counts limit wanted (inr (inr (inl fault))) = inr (inr (inl (fault.0, omega (arith, counts, fault.1))))
  fails_then error counts limit wanted (inr (inr (inr full))) = inr (inr (inr (full.0, limit full.1)))

-- what an opening after a probe leaves is what it may leave of the files as they were before
module _ {D : Type 0} {g : disk.Ghosts D} (old new : Files D) (log : OnlyReads g old.log new.log) (db : OnlyReads g old.db new.db) where
  pub before : (image : Image) → outcomes g new.log new.db image → outcomes g old.log old.db image
  before image may = pair (log.crash _ may.0) (db.crash _ may.1)

  seen : image_of g new ≡ image_of g old
  seen = same_image log db

  under_way : (image : Image) → IsUnderWay g new image → IsUnderWay g old image
  under_way image (inl was) = inl (before image was)
  under_way image (inr other) = inr other

  kept : (size : ℕ) (image : Image) → IsKept g new size image → IsKept g old size image
  kept size image it = record {
    same = elim it.same [ inl was ↦ inl (before image was) | inr stands ↦ inr (subst (λ found. StandsAs size found image) seen stands) ];
    unread = λ unreadable. before image (it.unread (subst (IsUnreadable size) (sym seen) unreadable));
    something = λ none. it.something (λ was. none (before image was));
  }

  pub leaves_then : (rest : Leftover D g) → LeavesFiles new rest → LeavesFiles old rest
  leaves_then (left.Files now) h = λ image may. before image (h image may)
  leaves_then (left.Unopened now) (inl h) = inl (subst IsNothing seen h.0, λ image may. under_way image (h.1 image may))
  leaves_then (left.Unopened now) (inr h) =
      let size = stored_size (state_of now).page_size in
      inr (
        (λ nothing. h.0 (subst IsNothing (sym seen) nothing)),
        subst (λ image. NamesSize image size) seen h.1,
        subst (BeginsWell size) seen h.2,
        (λ sums. subst (SaysSums size) seen (h.3 sums)),
        λ image may. kept _ image (h.4 image may),
      )
  leaves_then (left.Store now) h = λ found may. let it = h found may in
      (subst (λ image. AreFoundIn image found) seen it.0, λ db held. it.1 db (subst (λ image. HoldsDatabase image db) (sym seen) held))

  pub clean_before : (fresh : Unopened D g) → files_of fresh ≡ (new.log, new.db) → IsTrue (state_of fresh).is_clean
      → AreClean g new.log new.db
  clean_before fresh files clean = sym ((pool_files fresh.pool).1 ∙ ap (λ f. are_clean g f.0 f.1) files) ∙ clean

  -- and what a beginning of them leaves
  module _ (fresh : Unopened D g) (files : files_of fresh ≡ (new.log, new.db))
      (size : (state_of fresh).page_size ≡ 512) (none : wanted_by fresh ≡ []) where
    pub still_blank : IsBlank (image_of g old) → IsBlankFile (state_of fresh).page_size (unopened.image fresh)
    still_blank blank = subst₂ IsBlankFile (sym size) (sym (ap (λ f. seen_image g f.0 f.1) files ∙ seen)) blank

    pub begins_then : IsPageSize (stored_size 512) → IsBlank (image_of g old) → (rest : Leftover D g) → LeavesMade fresh rest
        → LeavesBeginning old rest
    begins_then valid blank (left.Files now) h = h
    begins_then valid blank (left.Unopened now) h = λ image may. elim (h.blank (still_blank blank) image may) [
      | inl was ↦ inl (before image (subst (λ f. outcomes g f.0 f.1 image) files ((pool_files fresh.pool).2 image was)))
      | inr way ↦ inr (on_the_way image valid (rw (size, none) at way))
    ]
    begins_then valid blank (left.Store now) h = h
