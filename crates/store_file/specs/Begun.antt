-- What a connection shows of files that held a database or none, and what a failed one says and leaves.
use Rattle.std.specs.Prelude.{◌⊎◌}
use Rattle.sqlite_disk.specs.declared.Disk as disk
use Rattle.sqlite_disk.specs.declared.Files.{Files}
use Rattle.sqlite_wal.specs.Files.{outcomes}
use Rattle.sqlite_wal.specs.Recovery.{Image}
use Rattle.sqlite_pool.specs.Opening.{IsBlankFile}
use Rattle.sqlite_trees.specs.Tree.{Trees}
use Rattle.sqlite_trees.specs.declared.error.StoreError.{StoreError}
use Rattle.sqlite_store.specs.declared.store.FileStore.{FileStore}
use Rattle.sqlite_store.specs.declared.store.open.Unopened.{Unopened}
use Rattle.sqlite_store.specs.FileStore.{recovers}
use Rattle.sqlite_store.specs.Unopened.{state_of, Creates}
use Rattle.sqlite.specs.Held.{Held}
use Rattle.sqlite.specs.declared.error.Error.{Error}
use Rattle.sqlite.specs.declared.file.Leftover.{Leftover}
use Rattle.sqlite.specs.declared.file.Leftover.TheVariants as left
use Rattle.sqlite.specs.Files.{image_of, file_state, HoldsDatabase, IsEmpty, Finds, FailsToOpenAs, LeavesFiles}

-- The database file is empty, whatever its log holds, or is what a stop left of a first page of 512 bytes.
abbrev pub IsBlank : Image → Type 0
IsBlank = IsBlankFile 512

-- what a stop could leave before, still no database, or an empty one
abbrev pub IsOnTheWay : {D : Type 0} → disk.Ghosts D → Files D → Image → Type 0
IsOnTheWay g files image = outcomes g files.log files.db image ⊎ (IsBlank image ⊎ ∥ ((db : Trees) × HoldsDatabase image db × IsEmpty db) ∥₁)

module _ {D : Type 0} {g : disk.Ghosts D} where
  -- no table, and no row
  abbrev pub IsBegun : Held (FileStore D g) → Type 0
  IsBegun c = IsEmpty (file_state c).now.trees

  -- there was nothing, and now there is an empty database
  abbrev pub Begins : Files D → Held (FileStore D g) → Type 0
  Begins files c = IsBlank (image_of g files) × IsBegun c

  -- it is the database that the files hold, or a new one where they held none
  abbrev pub FindsOrBegins : Files D → Held (FileStore D g) → Type 0
  FindsOrBegins files c = Finds files c ⊎ Begins files c

  -- It fails as an opening of these files does: for want of memory, for a fault of the disk, at a limit, or because the
  -- files are none to open. A fault may have any name.
  abbrev pub FailsToConnect : Files D → Leftover D g → Error → Type 0
  FailsToConnect files rest error = (kind : StoreError) × FailsToOpenAs kind files rest error

  -- what a beginning that failed leaves of files that held no database
  abbrev pub LeavesBeginning : Files D → Leftover D g → Type 0
  LeavesBeginning files (left.Files now) = ⊥
  LeavesBeginning files (left.Unopened now) = (image : Image) → (state_of now).may_leave image → IsOnTheWay g files image
  LeavesBeginning files (left.Store now) = (found : Trees) → recovers now found → IsEmpty found

  -- what an opening leaves, or a beginning where there was nothing
  abbrev pub LeavesFound : Files D → Leftover D g → Type 0
  LeavesFound files rest = LeavesFiles files rest ⊎ (IsBlank (image_of g files) × LeavesBeginning files rest)

  -- The same, in the words of the files that the beginning was given.
  abbrev pub LeavesMade : Unopened D g → Leftover D g → Type 0
  LeavesMade fresh (left.Files now) = ⊥
  LeavesMade fresh (left.Unopened now) = Creates fresh (state_of now)
  LeavesMade fresh (left.Store now) = (found : Trees) → recovers now found → IsEmpty found
